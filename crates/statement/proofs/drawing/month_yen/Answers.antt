use Rattle.std.proofs.Common.{◌≡◌, ℕ, suc, ◌^◌, ◌≤◌, ℤ, pos, negsuc, nat_abs, sym, subst, arith, w64, to_z, of_z, rules}
use mir.Syntax.{w128}
use borrow.Author.Differences.{ints}
use Rattle.std.proofs.lemmas.Nat.{mul-le}
use Rattle.settlement.specs.Settlement.{yen_of}
use Rattle.statement.proofs.drawing.month_yen.Goals as goal

few_of : (settled : ℤ) (price : ℕ) → nat_abs settled ≤ 2 ^ 34 → price ≤ 100000 → nat_abs (yen_of settled price) ≤ 2 ^ 51
few_of (pos n) price s p = omega (arith, mul-le n price (2 ^ 34) 100000 s p)
few_of (negsuc n) price s p = omega (arith, ints, mul-le (suc n) price (2 ^ 34) 100000 s p)

pub returns : goal.returns
returns c =
    let value : to_z w64 (of_z w64 (to_z w128 (of_z w128 c.yen.result))) ≡ yen_of c.args.settled c.args.price = search rules in
    record {
      value = value;
      few = subst (λ (z : ℤ). nat_abs z ≤ 2 ^ 51) (sym value) (few_of c.args.settled c.args.price c.requires.settled c.requires.price);
    }
