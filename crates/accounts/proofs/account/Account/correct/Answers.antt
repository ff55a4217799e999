use Rattle.std.proofs.Common.{◌≡◌, false, sym, ◌∙◌, w64, to_z, of_z, rules, arith}
use Rattle.sides.specs.Sides.{with_side}
use Rattle.accounts.specs.Fields.{told}
use Rattle.accounts.specs.Accounts.{over_by, correction_of, split, settling}
use Rattle.accounts.proofs.Sums.{settled_some, settled_none, corrected_is, after_is, none_corrected, after_none}
use Rattle.accounts.proofs.account.Account.correct.Goals as goal

pub returns-in_err-self-inside-clause-value : goal.returns-in_err-self-inside-clause-value
returns-in_err-self-inside-clause-value c =
    let a = c.args.self.now in
    let due = c.correction_at-due.result in
    let is : due ≡ correction_of c.args.standard c.args.side c.args.heat c.args.price a = search rules in
    let volume : to_z w64 (of_z w64 due.volume) ≡ due.volume = search rules in
    let yen : to_z w64 (of_z w64 due.yen) ≡ due.yen = search rules in
    let over = settled_none (to_z w64 (of_z w64 due.volume)) (to_z w64 (of_z w64 due.yen)) a c.in_err-self-inside.ensures.value in
    rw c.from_residual.ensures
    (none_corrected c.args.standard c.args.side c.args.heat c.args.price a due is
    (sym (λ j. over_by (volume j) (yen j) a) ∙ over))

pub returns-in_err-self-inside-clause-after : goal.returns-in_err-self-inside-clause-after
returns-in_err-self-inside-clause-after c =
    let a = c.args.self.now in
    let due = c.correction_at-due.result in
    let is : due ≡ correction_of c.args.standard c.args.side c.args.heat c.args.price a = search rules in
    let volume : to_z w64 (of_z w64 due.volume) ≡ due.volume = search rules in
    let yen : to_z w64 (of_z w64 due.yen) ≡ due.yen = search rules in
    let over = settled_none (to_z w64 (of_z w64 due.volume)) (to_z w64 (of_z w64 due.yen)) a c.in_err-self-inside.ensures.value in
    after_none c.args.standard c.args.side c.args.heat c.args.price a due is
    (sym (λ j. over_by (volume j) (yen j) a) ∙ over)

pub invariant_of-self : goal.invariant_of-self
invariant_of-self c = record {
  left = grind (arith, c.self-2.invariant.left, c.split-split.ensures.few.1);
  flows = c.self-2.invariant.flows;
  plans = c.self-2.invariant.plans;
  limits = c.self-2.invariant.limits;
}

pub returns : goal.returns
returns c =
    let a = c.args.self.now in
    let standard = c.args.standard in
    let side = c.args.side in
    let heat = c.args.heat in
    let due = c.correction_at-due.result in
    let split_is : c.split-split.result ≡ split standard side heat a = search rules in
    let is : due ≡ correction_of standard side heat c.args.price a = search rules in
    let volume : to_z w64 (of_z w64 due.volume) ≡ due.volume = search rules in
    let yen : to_z w64 (of_z w64 due.yen) ≡ due.yen = search rules in
    let taken = settled_some (to_z w64 (of_z w64 due.volume)) (to_z w64 (of_z w64 due.yen)) a c.in_ok-self-inside.field-0 c.in_ok-self-inside.ensures.value in
    let fits : over_by due.volume due.yen a ≡ false = sym (λ j. over_by (volume j) (yen j) a) ∙ taken.fits in
    let same : told c.self-2.inside ≡ settling due.volume due.yen a =
    c.self-2.view_is ∙ taken.is ∙ (λ j. settling (volume j) (yen j) a) in
    let left : c.put.new.self ≡ with_side side a.remainders (split standard side heat a).remainder =
    c.put.ensures.after ∙ (λ j. with_side side (same j).remainders (split_is j).remainder) in
    record {
      value = corrected_is standard side heat c.args.price a due is fits;
      after = (λ j. record {
        remainders = left j;
        volumes = (same j).volumes;
        metered = (same j).metered;
        plan = (same j).plan;
        planned = (same j).planned;
        older = (same j).older;
        newer = (same j).newer;
        settled = (same j).settled;
        yen = (same j).yen;
      }) ∙ after_is standard side heat c.args.price a due is fits;
    }
