use Rattle.std.proofs.Common.{◌≡◌, sym, ap, ◌∙◌, subst, rules}
use Rattle.rates.specs.Rates.{passing, if_true, Instigator}
use Rattle.rates.specs.Orders.{rates_total}
use Rattle.rates.proofs.Instigators.{instigator_is, filtered}
use Rattle.rates.proofs.order.instigator.Goals as goal

pub returns : goal.returns
returns c =
    let rates = c.args.rates.now in
    let kept : c.filter.result ≡ if_true passing rates c.first_greatest.result = filtered rates c.first_greatest.result c.filter.result (search rules) in
    record {
      value = kept ∙ ap (if_true passing rates) (c.first_greatest.ensures.value rates_total);
      who = subst (Instigator rates) (sym kept) (instigator_is rates c.first_greatest.result (c.first_greatest.ensures.first rates_total));
    }
