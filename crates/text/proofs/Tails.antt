-- Lists that are written piece by piece: a text at the front and the byte after it, a text in the tail from a place on,
-- and one text after another.
use Rattle.std.proofs.Common.{◌≡◌, ℕ, ◌+◌, ◌-◌, ◌<◌, ◌≤◌, List, [], ◌∷◌, ◌++◌, length, take, drop, set, sym, ap, ◌∙◌, append_assoc, add_assoc, arith, length-append, length-drop}
use borrow.Rule.Slice.PartMut.{put_mid}
use Rattle.std.proofs.lemmas.List.{append-nil, set_at, drop_more, drop-drop, drop_all, drop_at, take_at, take_rest, length-take-le}
use Rattle.text.specs.Rows.{placed}

-- a text at the front of a list, of which the last byte is still to be written
pub record Begun (text : List ℕ) (last place : ℕ) (out entry : List ℕ) : Type 0 where
  pub front : List ℕ
  pub whole : text ≡ front ++ (last ∷ [])
  pub size : place ≡ length front
  pub holds : out ≡ front ++ drop (length front) entry

module _ {text : List ℕ} {last place : ℕ} {out entry : List ℕ} (b : Begun text last place out entry) where
  pub begun_size : place + 1 ≡ length text
  begun_size = ap (λ n. n + 1) b.size ∙ sym (length-append b.front (last ∷ [])) ∙ sym (ap length b.whole)

  -- the last byte written
  pub begun_put : length text ≤ length entry → set out place last ≡ text ++ drop (length text) entry
  begun_put h =
      let n = length b.front in
      let size : n + 1 ≡ length text = omega (arith, begun_size, b.size) in
      let room : n < length entry = omega arith in
      ap (λ xs. set xs place last) (b.holds ∙ ap (λ xs. b.front ++ xs) (drop_more entry n 0 room))
      ∙ set_at b.front _ (drop (n + 1) entry) last place (sym b.size)
      ∙ sym (append_assoc b.front (last ∷ []) (drop (n + 1) entry))
      ∙ ap (λ xs. xs ++ drop (n + 1) entry) (sym b.whole)
      ∙ ap (λ k. text ++ drop k entry) size

module _ (at : ℕ) (text : List ℕ) where
  -- a tail at whose front a text was written
  pub tail_put : (xs : List ℕ) →
      put_mid at (length xs - at) xs (text ++ drop (length text) (take (length xs - at) (drop at xs))) ≡ placed at text xs
  tail_put xs =
      let short : length (drop at xs) ≤ length xs - at = simp length-drop (omega arith) in
      let none : drop (length xs - at) (drop at xs) ≡ [] = drop_all (length xs - at) (drop at xs) short in
      rw (take_rest xs at, drop-drop (length text) at xs, none, append-nil)

  -- one text placed after another is both placed at once
  pub placed_more : (more xs : List ℕ) → at + length text ≤ length xs →
      placed (at + length text) more (placed at text xs) ≡ placed at (text ++ more) xs
  placed_more more xs h =
      let past = at + length text in
      let before = take at xs ++ text in
      let split : placed at text xs ≡ before ++ drop past xs = sym (append_assoc (take at xs) text (drop past xs)) in
      let inside : at ≤ length xs = omega arith in
      let size : length before ≡ past = length-append (take at xs) text ∙ ap (λ n. n + length text) (length-take-le at xs inside) in
      let front : take past (placed at text xs) ≡ before = ap (take past) split ∙ take_at before (drop past xs) past size in
      let back : drop past (placed at text xs) ≡ drop past xs = ap (drop past) split ∙ drop_at before (drop past xs) past size in
      let rest : drop (past + length more) (placed at text xs) ≡ drop (past + length more) xs =
      sym (drop-drop (length more) past (placed at text xs)) ∙ ap (drop (length more)) back ∙ drop-drop (length more) past xs in
      rw (front, rest) (simp (append_assoc, length-append, add_assoc))

  -- a text at the front of the tail, and after it what is left
  pub placed_step : (more xs ys : List ℕ) → at + length text ≤ length xs →
      ys ≡ text ++ drop (length text) (take (length xs - at) (drop at xs)) →
      placed (at + length text) more (put_mid at (length xs - at) xs ys) ≡ placed at (text ++ more) xs
  placed_step more xs ys h e =
      ap (λ zs. placed (at + length text) more (put_mid at (length xs - at) xs zs)) e
      ∙ ap (placed (at + length text) more) (tail_put xs)
      ∙ placed_more more xs h
