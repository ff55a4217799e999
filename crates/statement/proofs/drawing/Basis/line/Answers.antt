use Rattle.std.proofs.Common.{◌≡◌, ap, ◌∙◌, w32, w64, to_z, of_z, rules}
use Rattle.shares.specs.Month.{share_of}
use Rattle.settlement.specs.Settlement.{kind_of, price_of, yen_of, tax_of}
use Rattle.statement.specs.Statement.{is_found}
use Rattle.statement.proofs.drawing.Basis.line.Goals as goal

pub returns : goal.returns
returns c =
    let basis = c.args.self in
    let entry = c.args.entry in
    let due = share_of basis.pool entry.figures in
    let share = c.share-share.result in
    let imbalance : to_z w64 (of_z w64 share.imbalance) ≡ due.imbalance = search rules in
    let carry : to_z w32 (of_z w32 (to_z w64 (of_z w64 share.carry))) ≡ due.carry = search rules in
    let settled : to_z w64 (of_z w64 share.settled) ≡ due.settled = search rules in
    let kind = c.of-kind.ensures.value ∙ (λ j. kind_of (c.eq.ensures j) (settled j)) in
    let price = c.price-price.ensures.value ∙ ap (λ k. price_of k entry.prices) kind in
    let yen : to_z w64 (of_z w64 c.month_yen-yen.result) ≡ yen_of due.settled (price_of (kind_of (is_found basis.instigator c.args.shipper) due.settled) entry.prices) =
    (let same : to_z w64 (of_z w64 c.month_yen-yen.result) ≡ c.month_yen-yen.result = search rules in
    same ∙ c.month_yen-yen.ensures.value ∙ (λ j. yen_of (settled j) (price j))) in
    let tax : to_z w64 (of_z w64 c.month_tax.result) ≡ tax_of (to_z w64 (of_z w64 c.month_yen-yen.result)) basis.percent =
    (let same : to_z w64 (of_z w64 c.month_tax.result) ≡ c.month_tax.result = search rules in
    same ∙ c.month_tax.ensures.value) in
    record {
      value = λ j. record {
        shipper = c.args.shipper;
        receipts = entry.figures.receipts;
        deliveries = entry.figures.deliveries;
        imbalance = imbalance j;
        carry = carry j;
        settled = settled j;
        kind = kind j;
        price = price j;
        yen = yen j;
        tax = (tax ∙ ap (λ z. tax_of z basis.percent) yen) j;
      };
    }
