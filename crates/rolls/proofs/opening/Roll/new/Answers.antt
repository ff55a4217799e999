use Rattle.std.proofs.Common.{◌≡◌, false, ◌<◌, ◌||◌, eqb, ltb, [], ◌∷◌, ◌++◌, map, length, take, set, get_or, pos, Some, None, sym, ap, ◌∙◌, arith, rules, length-take-le}
use Rattle.std.proofs.lemmas.List.{take_all, map_more, get_or_default, length-map}
use Rattle.std.proofs.lemmas.List.Elements.{AllWithin-more}
use Rattle.std.proofs.lemmas.Bool.Decides.{nat_tests}
use Rattle.accounts.specs.Accounts.{blank, opened_if}
use Rattle.rolls.specs.Fields.{filled}
use Rattle.rolls.specs.Rolls.{carries_outside, opened_account}
use Rattle.rolls.specs.declared.opening.Carries.{Carries}
use Rattle.rolls.proofs.Filled.{filled_more, filled_told}
use Rattle.rolls.proofs.Opened.{opened_is, not_opened, stopped_at, all_opened}
use Rattle.rolls.proofs.opening.Roll.new.Goals as goal

abbrev none : Carries
none = record { older = pos 0; newer = pos 0 }

pub returns-in_err-account : goal.returns-in_err-account
returns-in_err-account c =
    let carries = c.args.carries.now in
    let i = c.loop-i.i in
    let x = get_or carries i none in
    let size : (eqb (length carries) 0 || ltb 16 (length carries)) ≡ false = grind (arith, nat_tests) in
    let lacks : c.new.result ≡ None = grind arith in
    let failed : None ≡ opened_if x.older x.newer = search rules in
    let stop = stopped_at carries size i none c.loop-i.invariant.allowed c.loop-i-test.true (not_opened x failed) in
    record { value = grind (arith, stop) }

pub loop-i-preserved : goal.loop-i-preserved
loop-i-preserved c =
    let carries = c.args.carries.now in
    let i = c.loop-i.i in
    let account = c.in_ok-account.account in
    let done = map opened_account (take i carries) in
    let made : c.new.result ≡ Some account = grind arith in
    let is : Some account ≡ opened_if (get_or carries i none).older (get_or carries i none).newer = search rules in
    let one = opened_is (get_or carries i none) account is in
    let long : length done ≡ i = length-map (take i carries) opened_account ∙ length-take-le i carries (omega (arith, c.loop-i-test.true)) in
    let few : length done < 16 = omega (arith, long, c.loop-i-test.true, c.if-carries-gt-SHIPPERS.false) in
    record {
      opened = ap (λ row. set row i account) c.loop-i.invariant.opened
          ∙ ap (λ n. set (filled done) n account) (sym long)
          ∙ filled_more blank done account few
          ∙ (λ j. filled (done ++ one.is j ∷ []))
          ∙ ap filled (sym (map_more opened_account carries i none c.loop-i-test.true));
      allowed = AllWithin-more (λ x. carries_outside x ≡ false) carries 0 i c.loop-i.invariant.allowed
          (λ d. ap carries_outside (get_or_default carries i d none c.loop-i-test.true) ∙ one.allowed);
    }

pub returns : goal.returns
returns c =
    let carries = c.args.carries.now in
    let i = c.loop-i.i in
    let done = map opened_account (take i carries) in
    let size : (eqb (length carries) 0 || ltb 16 (length carries)) ≡ false = grind (arith, nat_tests) in
    let end : length carries ≡ i = omega (arith, c.loop-i-test.false, c.loop-i.auto.i-end) in
    let long : length done ≡ length carries =
    length-map (take i carries) opened_account ∙ length-take-le i carries (omega (arith, end)) ∙ sym end in
    record {
      value = all_opened carries size i none c.loop-i.invariant.allowed end (take (length carries) c.loop-i.accounts)
          (ap (take (length carries)) c.loop-i.invariant.opened
          ∙ filled_told blank done (length carries) long
          ∙ ap (map opened_account) (take_all i carries (omega (arith, end))));
    }
