use Rattle.std.proofs.Common.{◌≡◌, false, Some, sym, ap, ◌∙◌, w32, w64, to_z, of_z, rules}
use Rattle.accounts.specs.Told.{AccountTold}
use Rattle.accounts.specs.Fields.{told}
use Rattle.accounts.specs.Accounts.{blank, over_by, settling}
use Rattle.accounts.proofs.Sums.{settled_some, issued_is}
use Rattle.accounts.proofs.account.Account.issued.Goals as goal

pub returns : goal.returns
returns c =
    let a = c.args.self.now in
    let line = c.args.line in
    let volume : to_z w64 (of_z w64 line.settled) ≡ line.settled = search rules in
    let yen : to_z w64 (of_z w64 line.yen) ≡ line.yen = search rules in
    let taken = settled_some (to_z w64 (of_z w64 line.settled)) (to_z w64 (of_z w64 line.yen)) a c.in_ok-after.after c.in_ok-after.ensures.value in
    let fits : over_by line.settled line.yen a ≡ false = sym (λ j. over_by (volume j) (yen j) a) ∙ taken.fits in
    let same : told c.after.inside ≡ settling line.settled line.yen a =
    c.after.view_is ∙ taken.is ∙ (λ j. settling (volume j) (yen j) a) in
    let none : told c.result.inside ≡ blank = c.result.view_is ∙ c.default.ensures in
    let older : to_z w32 (of_z w32 c.self.inside.newer) ≡ c.self.inside.newer = search rules in
    let newer : to_z w32 (of_z w32 line.carry) ≡ line.carry = search rules in
    let settled : to_z w64 (of_z w64 c.after.inside.settled) ≡ c.after.inside.settled = search rules in
    let sum : to_z w64 (of_z w64 c.after.inside.yen) ≡ c.after.inside.yen = search rules in
    record {
      value = (λ j. Some (record {
        remainders = (c.self.view_is j).remainders;
        volumes = (none j).volumes;
        metered = (none j).metered;
        plan = (none j).plan;
        planned = (none j).planned;
        older = (older ∙ ap (λ (t : AccountTold). t.newer) c.self.view_is) j;
        newer = newer j;
        settled = (settled ∙ ap (λ (t : AccountTold). t.settled) same) j;
        yen = (sum ∙ ap (λ (t : AccountTold). t.yen) same) j;
      })) ∙ issued_is line a fits;
    }
