use Rattle.std.proofs.Common.{◌≡◌, sym, subst, ◌∙◌, rules}
use borrow.Author.Tests.{tests}
use Rattle.std.specs.Cmp.{IsTotalOrder}
use Rattle.std.specs.Option.{option_map}
use Rattle.std.proofs.lemmas.Iterator.{YieldsList-from_slice}
use Rattle.std.proofs.lemmas.Iterator.Consumers.{YieldsList-from_enumerate}
use Rattle.greatest.specs.Greatest.{below, first_greatest, FirstGreatest}
use Rattle.greatest.proofs.Chains.{found, is_first}
use Rattle.greatest.proofs.first_greatest.Goals as goal

value : (g : _) (c : goal.After-map g) (o : IsTotalOrder g.T.Ord.cmp) → c.map.result ≡ first_greatest (below o) c.args.items.now
value g c o =
    let place : c.map.result ≡ option_map (λ p. p.0) c.reduce.result = search rules in
    let road = YieldsList-from_enumerate (YieldsList-from_slice c.args.items.now cc) (cc) in
    place ∙ found (below o) c.args.items.now c.reduce.result (λ x y r q k. search (rules, tests)) c.reduce.ensures.runs road

pub returns : goal.returns
returns g c = record {
  value = value g c;
  first = λ o. subst (FirstGreatest (below o) c.args.items.now) (sym (value g c o)) (is_first o c.args.items.now);
}
