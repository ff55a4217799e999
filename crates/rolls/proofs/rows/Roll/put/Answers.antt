-- A shipper's place is one of those told.
use Rattle.std.proofs.Common.{List, set, ap, ◌∙◌}
use Rattle.accounts.specs.Told.{AccountTold}
use Rattle.accounts.specs.Accounts.{blank}
use Rattle.rolls.proofs.Filled.{told_again, sound_again}
use Rattle.rolls.proofs.rows.Roll.put.Goals as goal

pub invariant_of-self : goal.invariant_of-self
invariant_of-self c = sound_again blank c.self.inside c.self.invariant c.args.shipper c.args.account c.if-shipper-self.true

pub returns-then-shipper-self : goal.returns-then-shipper-self
returns-then-shipper-self c =
    let told = told_again blank c.self.inside c.self.invariant c.args.shipper c.args.account c.if-shipper-self.true in
    record { after = told ∙ ap (λ (accounts : List AccountTold). set accounts c.args.shipper c.args.account) c.self.view_is }
