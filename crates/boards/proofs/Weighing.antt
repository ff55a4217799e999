-- Two prices weighed by a share in percent come to no more than the greater limit.
use Rattle.std.proofs.Common.{◌≡◌, ℕ, ◌+◌, ◌-◌, ◌*◌, ◌≤◌, true, arith}
use Rattle.std.proofs.lemmas.Nat.{mul-le}
use Rattle.std.proofs.lemmas.Bool.Decides.{nat_tests}
use Rattle.boards.specs.Rules.{index_stands, index_base}
use Rattle.boards.specs.declared.index.IndexEvidence.{IndexEvidence}

weighed : (a b s t : ℕ) → a ≤ 100000 → b ≤ 100000 → s + t ≡ 100 → a * s + b * t ≤ 10000000
weighed a b s t p q e = omega (arith, mul-le a s 100000 s p (omega arith), mul-le b t 100000 t q (omega arith))

pub base_bound : (e : IndexEvidence) → index_stands e ≡ true → index_base e ≤ 200000
base_bound e h =
    let lng : e.lng ≤ 100000 = grind (arith, nat_tests) in
    let lpg : e.lpg ≤ 100000 = grind (arith, nat_tests) in
    let share : e.share ≤ 100 = grind (arith, nat_tests) in
    let tax : e.tax ≤ 100000 = grind (arith, nat_tests) in
    omega (arith, weighed e.lng e.lpg e.share (100 - e.share) lng lpg (omega arith))
