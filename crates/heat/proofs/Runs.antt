-- A run of bookings: its loop, and that its volumes telescope to the whole heat divided once.
use Rattle.std.proofs.Common.{◌≡◌, ℕ, ◌+◌, ◌<◌, ◌≤◌, List, [], ◌∷◌, length, get_or, drop, ℤ, pos, ◌+ℤ◌, ◌*ℤ◌, nat_abs, sym, ap, ◌∙◌, subst, arith}
use borrow.Author.Differences.{ints}
use Rattle.std.proofs.lemmas.List.{at_drop_more, at_drop_all}
use Rattle.heat.specs.Split.{split_of, run_of, whole_run, total}
use Rattle.heat.specs.declared.split.Split.{Split}
use Rattle.heat.proofs.Floor.{over_sum, floors, whole}

-- ---- the loop: what is booked so far, and the run of the heats still to come, give the whole run
pub record Kept (s : ℕ) (heats : List ℤ) (start i : ℕ) (booked : ℤ) (left : ℕ) : Type 0 where
  pub volume : booked +ℤ (run_of s (drop i heats) left).booked ≡ (run_of s heats start).booked
  pub rest : (run_of s (drop i heats) left).remainder ≡ (run_of s heats start).remainder

module _ (s : ℕ) (heats : List ℤ) (start i : ℕ) (booked : ℤ) (left : ℕ) (kept : Kept s heats start i booked left) where
  one_more : i < length heats →
      Kept s heats start (i + 1) (booked +ℤ (split_of s (get_or heats i (pos 0)) left).booked) (split_of s (get_or heats i (pos 0)) left).remainder
  one_more h =
      let now = split_of s (get_or heats i (pos 0)) left in
      let after = run_of s (drop (i + 1) heats) now.remainder in
      let volume : (run_of s (drop i heats) left).booked ≡ now.booked +ℤ after.booked =
      at_drop_more (λ hs. (run_of s hs left).booked) heats i (pos 0) h in
      record {
        volume = omega (arith, ints, volume, kept.volume);
        rest = sym (at_drop_more (λ hs. (run_of s hs left).remainder) heats i (pos 0) h) ∙ kept.rest;
      }

  pub kept_more : (split : Split ℤ) (sum : ℤ) → i < length heats → split ≡ split_of s (get_or heats i (pos 0)) left →
      sum ≡ booked +ℤ split.booked → Kept s heats start (i + 1) sum split.remainder
  kept_more split sum h e f =
      subst (λ (z : ℤ). Kept s heats start (i + 1) z split.remainder) (sym f)
      (subst (λ (x : Split ℤ). Kept s heats start (i + 1) (booked +ℤ x.booked) x.remainder) (sym e) (one_more h))

  pub kept_all : length heats ≤ i → ◌≡◌ {A = Split ℤ} (record { booked = booked; remainder = left }) (run_of s heats start)
  kept_all h =
      let volume : (run_of s (drop i heats) left).booked ≡ pos 0 = at_drop_all (λ hs. (run_of s hs left).booked) heats i h in
      let rest : (run_of s (drop i heats) left).remainder ≡ left = at_drop_all (λ hs. (run_of s hs left).remainder) heats i h in
      let all : booked ≡ (run_of s heats start).booked = omega (arith, ints, volume, kept.volume) in
      λ j. record { booked = all j; remainder = (sym rest ∙ kept.rest) j }

-- ---- the law
record Conserves (s : ℕ) (heats : List ℤ) (start : ℕ) : Type 0 where
  sum : total heats +ℤ pos start ≡ (run_of s heats start).booked *ℤ pos s +ℤ pos (run_of s heats start).remainder
  below : (run_of s heats start).remainder < s

conserves : (s : ℕ) (heats : List ℤ) (start : ℕ) → start < s → Conserves s heats start
conserves s [] start h = record { sum = omega (arith, ints); below = h }
conserves s (heat ∷ heats) start h =
    let now = split_of s heat start in
    let some : 0 < s = omega arith in
    let w = whole (heat +ℤ pos start) s some in
    let more = conserves s heats now.remainder w.below in
    let one : heat +ℤ pos start ≡ now.booked *ℤ pos s +ℤ pos now.remainder =
    w.sum ∙ ap (λ t. now.booked *ℤ pos s +ℤ t) w.natural in
    record {
      sum = omega (arith, ints, one, more.sum, over_sum now.booked (run_of s heats now.remainder).booked s);
      below = more.below;
    }

pub run_telescopes : (s : ℕ) (heats : List ℤ) (start : ℕ) → start < s → run_of s heats start ≡ whole_run s heats start
run_telescopes s heats start h =
    let c = conserves s heats start h in
    let f = floors (total heats +ℤ pos start) s (run_of s heats start).booked (run_of s heats start).remainder c.below c.sum in
    λ i. record { booked = sym f.quotient i; remainder = nat_abs (sym f.rest i) }
