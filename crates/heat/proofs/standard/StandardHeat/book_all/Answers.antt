use Rattle.std.proofs.Common.{◌≡◌, get_or, pos, ap, ◌∙◌, arith, w64, SFits, rules}
use borrow.Author.Differences.{ints}
use Rattle.std.proofs.lemmas.Int.{to_z-of_z}
use Rattle.heat.specs.Split.{split_of}
use Rattle.heat.proofs.Runs.{kept_more, kept_all, run_telescopes}
use Rattle.heat.proofs.standard.StandardHeat.book_all.Goals as goal

pub loop-heat-preserved : goal.loop-heat-preserved
loop-heat-preserved c =
    let i = c.loop-heat.heat-index in
    let heat = get_or c.args.heats.now i (pos 0) in
    let held : SFits w64 heat = search rules in
    let split : c.split-split.result ≡ split_of c.args.self heat c.loop-heat.run.remainder =
    c.split-split.ensures.value ∙ ap (λ z. split_of c.args.self z c.loop-heat.run.remainder) (to_z-of_z w64 heat held) in
    let small : SFits w64 c.split-split.result.booked = search rules in (
      omega (arith, ints, small, c.from.ensures, c.loop-heat.invariant.0),
      kept_more c.args.self c.args.heats.now c.args.remainder i _ c.loop-heat.run.remainder c.loop-heat.invariant.1
          c.split-split.result _ c.loop-heat-test.true split
          (omega (arith, ints, small, c.from.ensures, c.loop-heat.invariant.0)),
    )

pub returns : goal.returns
returns c =
    let d = c.loop-heat.invariant.1 in
    let run = kept_all c.args.self c.args.heats.now c.args.remainder c.loop-heat.heat-index _ _ d (omega arith) in
    record { value = run; telescopes = λ h. run ∙ run_telescopes c.args.self c.args.heats.now c.args.remainder h }
