use Rattle.std.proofs.Common.{◌≡◌, ◌^◌, ◌≤◌, ℤ, nat_abs, Some, sym, ap, ◌∙◌, subst, w32, w64, to_z, of_z, rules}
use Rattle.accounts.specs.Fields.{told}
use Rattle.accounts.specs.Accounts.{sum_if, settled_if}
use Rattle.accounts.proofs.Sums.{settled_is}
use Rattle.accounts.proofs.account.Account.settling.Goals as goal

pub invariant_of-result : goal.invariant_of-result
invariant_of-result c =
    let settled : to_z w64 (of_z w64 c.in_ok-sum_within.field-0) ≡ c.in_ok-sum_within.field-0 = search rules in
    let yen : to_z w64 (of_z w64 c.in_ok-sum_within-2.field-0) ≡ c.in_ok-sum_within-2.field-0 = search rules in
    record {
      left = c.self.invariant.left;
      flows = c.self.invariant.flows;
      plans = c.self.invariant.plans;
      limits = (
        subst (λ (z : ℤ). nat_abs z ≤ 10 ^ 12) (sym settled) c.in_ok-sum_within.ensures.limit,
        subst (λ (z : ℤ). nat_abs z ≤ 10 ^ 15) (sym yen) c.in_ok-sum_within-2.ensures.limit,
      );
    }

pub returns : goal.returns
returns c =
    let a = c.self.inside in
    let s = c.in_ok-sum_within.field-0 in
    let y = c.in_ok-sum_within-2.field-0 in
    let settled : Some s ≡ sum_if (10 ^ 12) a.settled c.args.volume = search rules in
    let yen : Some y ≡ sum_if (10 ^ 15) a.yen c.args.yen = search rules in
    let older : to_z w32 (of_z w32 a.older) ≡ a.older = search rules in
    let newer : to_z w32 (of_z w32 a.newer) ≡ a.newer = search rules in
    let ss : to_z w64 (of_z w64 s) ≡ s = search rules in
    let ys : to_z w64 (of_z w64 y) ≡ y = search rules in
    record {
      value = (λ j. Some (record {
        remainders = a.remainders;
        volumes = a.volumes;
        metered = (told a).metered;
        plan = a.plan;
        planned = a.planned;
        older = older j;
        newer = newer j;
        settled = ss j;
        yen = ys j;
      })) ∙ settled_is c.args.volume c.args.yen (told a) s y settled yen
          ∙ ap (settled_if c.args.volume c.args.yen) c.self.view_is;
    }
