-- The element is lent by two calls: the array as a slice, and an element of the slice. The array follows the slice, the
-- slice its element, so the array follows the element.
use Rattle.std.proofs.Common.{◌≡◌, ℕ, ◌<◌, ◌*◌, ◌^◌, List, [], ◌∷◌, length, refl, sym, ap, ◌∙◌, subst, MutBor, slice_set, slice_index_or, w64}
use Rattle.std.proofs.raw_atomic.Walks.{proved}
use base.Logic.{id⊢, emp}
use base.Fml.{ftrue, flft}
use contract.BorrowLft.{◌⊑◌}
use contract.Monad.{fact, fact_i}
use contract.Running.{tables}
use denote.Array.{Array}
use denote.Builtin.{usize}
use denote.Exit.{yes, no}
use denote.Follow.{follows, follows_then}
use denote.Laws.{shows}
use denote.Param.{param, number, layout, layouts, ArrayAt}
use denote.Plain.{uint_vals, uint_Tells, uint_Makes}
use denote.RattleType.{RattleType}
use denote.Ref.{MutRef, mut_vals, mut_Tells}
use denote.Signature.{plain}
use denote.Slice.{MutSlice, mut_slice_vals, mut_slice_Tells}
use denote.Steps.{nothing, owned, heard, peeks, only}
use denote.Triple.Call.{calls_at}
use denote.Triple.Clauses.{Lasts, lasts}
use denote.Triple.Spec.{triple_of}
use denote.Triple.Table.{framed}
use denote.Triple.Walked.{Stays, says, stay_dropped, Goes-dropped, Goes-spent_ref, ends_at}
use mir.MapTy.{inst_fn}
use mir.Syntax.{Args, a_type, a_number, named}
use mir.Val.{Val, vint, vptr}
use prog.Memory.{size}
use types.ByLocal.{alloc_all, pass_all, free_all, look_at, get, through, sets, lands_as}
use types.Kit.{‵, raw, ◌⊛◌, some, later, ◌$◌, ◌∵◌, !, qed, done, move, keep, drop, use0, use1, use2, split, split3, join, fjoin, pick, await, rewrite, suffices, frame}
use types.Run.{enter, addr, stop, no_more, and_then, returns}
use Rattle.std.below.core.specs.contracts.slice.arrays.array+N+T.as_mut_slice as h
use Rattle.std.below.core.proofs.slice.arrays.array+N+T.as_mut_slice.Met as h-met
use Rattle.rolls.specs.contracts.places.item_mut as g
use Rattle.rolls.proofs.places.item_mut.Met as g-met
use Rattle.rolls.specs.contracts.places.place_mut as f
use Rattle.rolls.proofs.places.place_mut.Statement.{statement}
use Rattle.rolls.proofs.places.place_mut.Code as code

module _ (T : RattleType) (n : ℕ) where
  abbrev N : RattleType
  N = number n

  abbrev args : Args
  args = layouts (a_type ∷ a_number ∷ []) (T, (N, tt))

  abbrev R : RattleType
  R = param 0 T

  abbrev S : RattleType
  S = ArrayAt R (param 1 N)

  -- nothing is had of the two parameters at the end
  abbrev stayed : Stays (f.ended T N).signature.params (f.ended T N).kept
  stayed = (stay_dropped _ no, (stay_dropped _ yes, tt))

pub place_mut_spec : {M : Type 1} → statement M
place_mut_spec 𝓤 𝓛 𝓜 𝓡 wired T n L fits =
    let c = f.clauses T (N T n) 𝓛 𝓜.mem 𝓡.returns in
    proved 𝓛 (f.ended T (N T n)) (stayed T n) c 𝓜 𝓡
    (Goes-spent_ref 𝓛 3 (0 ∷ []) tt (plain (λ _. S T n)), (Goes-dropped 𝓛 3 (plain (λ _. usize)) yes (λ κs x w. refl), tt))
    (f.Key.name (args T n)) (inst_fn (args T n) code.function) (code.unfolded 𝓤 𝓛.H 𝓜 𝓡 wired (T, (N T n, tt)))
    (λ κs. (mut_vals, (uint_vals w64, tt))) (λ κs. (mut_Tells (named 0) κs.0 (S T n), (uint_Tells w64, tt)))
    (λ κs qs bounds a _ are.
    let κ = κs.0 in let q = qs.0 in let xs = a.0 in let m = a.1.0 in let vs = mut_vals xs in
    let κT = κs.1.0 in let qT = qs.1.0 in let κN = κs.1.1.0 in let qN = qs.1.1.0 in
    let lives = κT ⊑ T.lives in let fixed = κN ⊑ [] in let small = n * size (layout T) < 2 ^ 63 in
    let whole = MutRef (named 0) κ (S T n) in
    -- what the two calls ask and give
    let H = triple_of 𝓛 (h.signature T (N T n)) (h.spec T (N T n) 𝓛 𝓜.mem 𝓡.returns) in
    let z : H.Ghost = ((κs, qs, bounds, (xs, tt), (vs, tt)), tt) in
    let G = triple_of 𝓛 (g.signature T) (g.spec T 𝓛 𝓜.mem 𝓡.returns) in
    qed 𝓛 (((‵ (flft κ q) ⊛ ‵ (flft κT qT) ⊛ ‵ (flft κN qN) ⊛ ‵ ftrue) ⊛ ‵ (whole.own_val xs vs) ⊛ ‵ (usize.own_val m (vint w64 m ∷ [])) ⊛ ‵ ftrue)
    ∷ (raw (fact 𝓤 lives) ⊛ raw (fact 𝓤 fixed) ⊛ raw (fact 𝓤 small) ⊛ raw (fact 𝓤 (m < length xs.now))) ∷ []) ∵
    move ! (1 ∷ []) $ split3 ! $ heard ! _ (λ alive. heard ! _ (λ known. split ! $ heard ! _ (λ little. heard ! _ (λ within.
    split ! $ move ! (1 ∷ []) $ split3 ! $ keep ! (0 ∷ 3 ∷ []) $
    -- [the array; the tokens]
    enter ! _ _ _ _ _ $ alloc_all ! (λ l. pass_all ! refl ((tt, tt), ((tt, record { fits = are.1.0.1 }), tt)) $
    sets ! (addr ! (through ! refl (stop !))) refl (tt, tt) $
    nothing ! $ move ! (1 ∷ 0 ∷ []) $ join ! $ move ! (1 ∷ 0 ∷ []) $ join ! $
    nothing ! $ use0 𝓛 (raw (fact 𝓤 small)) (fact_i 𝓤 small (emp 𝓤) little) $ join ! $
    use0 𝓛 (raw (fact 𝓤 fixed)) (fact_i 𝓤 fixed (emp 𝓤) known) $ join ! $
    use0 𝓛 (raw (fact 𝓤 lives)) (fact_i 𝓤 lives (emp 𝓤) alive) $ join ! $
    move ! (1 ∷ 0 ∷ []) $ use2 𝓛 (raw (H.pre z)) (id⊢ 𝓤 _) $
    calls_at ! (framed 𝓤 𝓛.H 𝓜 (tables 𝓤 𝓛.H 𝓜 𝓡 𝓡.env)) H
    (h-met.met 𝓤 𝓛 𝓜 𝓡 (code.calls-core::slice::arrays::array+N+T::as_mut_slice 𝓡.env wired) T n L fits) z
    (and_then ! (get ! refl) (no_more !)) (λ v.
    use1 𝓛 (later (some (λ (s : MutBor (List T.Denot)).
    ((‵ (flft κ q) ⊛ ‵ (flft κT qT) ⊛ ‵ (flft κN qN) ⊛ ‵ ftrue) ⊛ ‵ ((MutSlice (named 0) κ (R T n)).own_val s (v ∷ [])))
    ⊛ some (λ (ws : Lasts (h.ended T (N T n)) κs (xs, tt)). ‵ (lasts (h.ended T (N T n)) κs (xs, tt) ws) ⊛ raw (fact 𝓤 (s.now ≡ xs.now))
    ⊛ ‵ (follows (S T n) (Array (R T n) 0) xs.ghost_name s.ghost_name (λ w. w)))))) (id⊢ 𝓤 _) $
    await ! tt $ pick ! (λ s. split ! $ split ! $ move ! (2 ∷ []) $ pick ! (λ ws. split3 ! $ drop ! $ heard ! _ (λ same.
    move ! (2 ∷ []) $ peeks ! (MutSlice (named 0) κ (R T n)) _ (shows 𝓛 (MutSlice (named 0) κ (R T n))) s (v ∷ []) (λ is.
    let e : v ∷ [] ≡ mut_slice_vals s = mut_slice_Tells (named 0) κ (R T n) s (v ∷ []) is in
    lands_as ! (ap only e) refl (tt, (tt, (record { fits = is.0.1.0 }, tt))) $
    rewrite ! 0 (λ (us : List Val). ‵ ((MutSlice (named 0) κ (R T n)).own_val s us)) e refl $
    -- [the slice; the array follows the slice; the tokens]
    let y : G.Ghost = (((κ, (κT, tt)), (q, (qT, tt)), bounds, (s, (m, tt)), (mut_slice_vals s, (vint w64 m ∷ [], tt))), tt) in
    let inside : m < length s.now = subst (λ (l : List T.Denot). m < length l) (sym same) within in
    move ! (2 ∷ []) $ split3 ! $ move ! (2 ∷ []) $ split ! $ move ! (1 ∷ []) $ drop ! $
    nothing ! $ owned ! usize _ (uint_Makes 𝓛 w64) m _ (refl, are.1.0.1) $ join ! $ move ! (4 ∷ 0 ∷ []) $ join ! $
    nothing ! $ move ! (4 ∷ 0 ∷ []) $ join ! $ move ! (3 ∷ 0 ∷ []) $ join ! $ join ! $
    use0 𝓛 (raw (fact 𝓤 (m < length s.now))) (fact_i 𝓤 (m < length s.now) (emp 𝓤) inside) $
    use0 𝓛 (raw (fact 𝓤 lives)) (fact_i 𝓤 lives (emp 𝓤) alive) $ join ! $
    move ! (1 ∷ 0 ∷ []) $ use2 𝓛 (raw (G.pre y)) (id⊢ 𝓤 _) $
    calls_at ! (framed 𝓤 𝓛.H 𝓜 (tables 𝓤 𝓛.H 𝓜 𝓡 𝓡.env)) G
    (g-met.met 𝓤 𝓛 𝓜 𝓡 (code.calls-rolls::places::item_mut 𝓡.env wired) T L) y
    (and_then ! (get ! refl) (and_then ! (get ! refl) (no_more !))) (λ w.
    use1 𝓛 (later (some (λ (r : MutBor T.Denot).
    ((‵ (flft κ q) ⊛ ‵ (flft κT qT) ⊛ ‵ ftrue) ⊛ ‵ ((MutRef (named 0) κ (R T n)).own_val r (w ∷ [])))
    ⊛ some (λ (ws : Lasts (g.ended T) (κ, (κT, tt)) (s, (m, tt))). ‵ (lasts (g.ended T) (κ, (κT, tt)) (s, (m, tt)) ws)
    ⊛ ‵ (follows (Array (R T n) 0) (R T n) s.ghost_name r.ghost_name (slice_set s.now m)) ⊛ raw (fact 𝓤 (r.now ≡ slice_index_or s.now m r.now)))))) (id⊢ 𝓤 _) $
    await ! tt $ pick ! (λ r. split ! $ split ! $ move ! (2 ∷ []) $ pick ! (λ ws. split3 ! $ drop ! $ move ! (1 ∷ []) $ heard ! _ (λ read.
    -- [the slice follows its element; two tokens; the element; the last token; the array follows the slice]
    move ! (4 ∷ 0 ∷ []) $ use2 𝓛 (‵ (follows (S T n) (R T n) xs.ghost_name r.ghost_name (slice_set s.now m)))
    (follows_then 𝓛 (S T n) (Array (R T n) 0) (R T n) (λ l. l) (slice_set s.now m) xs.ghost_name s.ghost_name r.ghost_name) $
    rewrite ! 0 (λ (l : List T.Denot). ‵ (follows (S T n) (R T n) xs.ghost_name r.ghost_name (slice_set l m))) same refl $
    move ! (2 ∷ []) $ peeks ! (MutRef (named 0) κ (R T n)) _ (shows 𝓛 (MutRef (named 0) κ (R T n))) r (w ∷ []) (λ is.
    let e : w ∷ [] ≡ mut_vals r = mut_Tells (named 0) κ (R T n) r (w ∷ []) is in
    lands_as ! (ap only e) refl (tt, tt) $ rewrite ! 0 (λ (us : List Val). ‵ ((MutRef (named 0) κ (R T n)).own_val r us)) e refl $
    returns ! (look_at ! 0 refl) $ free_all ! refl $
    -- [the element; the array follows it; two tokens; the last token]
    suffices ! _ (ends_at 𝓛 (f.ended T (N T n)) (stayed T n) c ((κs, qs, bounds, a, (vs, (vint w64 m ∷ [], tt))), tt) (vptr r.ref_ptr.0 r.ref_ptr.1) r (tt, (tt, tt)) (tt, (tt, tt))) $
    nothing ! $ nothing ! $ fjoin ! $ nothing ! $ fjoin ! $ join ! $
    move ! (2 ∷ []) $ split3 ! $ move ! (5 ∷ 2 ∷ []) $ join ! $ move ! (2 ∷ 0 ∷ []) $ join ! $ move ! (1 ∷ 0 ∷ []) $ join ! $ join ! $
    frame ! $ says ! (read ∙ ap (λ (l : List T.Denot). slice_index_or l m r.now) same) $ done !))))))))))))))))
