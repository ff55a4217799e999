use Rattle.std.proofs.Common.{ℕ, ◌/◌, pos, nat_abs, get_or, take, sym, arith}
use borrow.Author.Differences.{ints}
use Rattle.std.proofs.lemmas.Bool.{cond-true, cond-false}
use Rattle.std.proofs.lemmas.List.Sums.{sum_by_more, count_by_more_yes, count_by_more_no}
use Rattle.shares.specs.Month.{imbalance, stirred, of_stirred}
use Rattle.shares.specs.declared.figures.Figures.{Figures}
use Rattle.shares.proofs.Fairness.{some, less, all_fair, calm_exactly}
use Rattle.shares.proofs.pools.pool_of.Goals as goal
use Rattle.shares.proofs.pools.pool_of.Goals.{then-is_stirred, else-is_stirred}

pub loop-f-preserved : goal.loop-f-preserved
loop-f-preserved c =
    let fs = c.args.figures.now in
    let i = c.loop-f.f-index in
    let d : Figures = record { receipts = 0; deliveries = 0; plan = 0; brought = pos 0 } in
    let f = get_or fs i d in
    let more = λ (g : Figures → ℕ). sum_by_more g fs i d c.loop-f-test.true in
    let twentieth = more (of_stirred (λ g. g.receipts / 20)) in
    let size = more (of_stirred (λ g. nat_abs (imbalance g))) in
    elim c.if-is_stirred.branch [
      | then-is_stirred w ↦
          let t = sym w.if-is_stirred.ensures.value in
          record {
            count = omega (arith, count_by_more_yes stirred fs i d c.loop-f-test.true t);
            carried = omega (arith, twentieth, cond-true (stirred f) (f.receipts / 20) 0 t);
            moved = omega (arith, ints, size, cond-true (stirred f) (nat_abs (imbalance f)) 0 t);
            few = omega arith;
            few_carried = omega arith;
            few_moved = omega (arith, ints);
          }
      | else-is_stirred w ↦
          let t = sym w.if-is_stirred.ensures.value in
          record {
            count = omega (arith, count_by_more_no stirred fs i d c.loop-f-test.true t);
            carried = omega (arith, twentieth, cond-false (stirred f) (f.receipts / 20) 0 t);
            moved = omega (arith, size, cond-false (stirred f) (nat_abs (imbalance f)) 0 t);
            few = omega arith;
            few_carried = omega arith;
            few_moved = omega arith;
          }
    ]

pub invariant_of-result : goal.invariant_of-result
invariant_of-result c =
    let so_far = take c.loop-f.f-index c.args.figures.now in
    (omega (arith, some so_far), omega (arith, less so_far), omega arith, omega arith)

pub returns-clause-fair : goal.returns-clause-fair
returns-clause-fair c = all_fair c.args.figures.now

pub returns-clause-calm : goal.returns-clause-calm
returns-clause-calm c = calm_exactly c.args.figures.now
