use Rattle.std.proofs.Common.{◌<◌, ◌≢◌, length, unwrap_or, ap, ◌∙◌, arith, get_or-set_other, get_or-set_same, below_more}
use Rattle.std.proofs.lemmas.List.{length-set}
use Rattle.table.specs.Views.{view}
use Rattle.step.proofs.Starts.{starts_are, start_value}
use Rattle.step.proofs.open.starts.Goals as goal

pub loop-g-preserved : goal.loop-g-preserved
loop-g-preserved c =
    let lt : c.loop-g.g < length c.loop-g.word-items = omega arith in
    let said = c.unwrap_or.ensures ∙ ap (λ o. unwrap_or o 0) c.starting_word.ensures ∙ start_value (view c.args.table.now) c.args.switch c.loop-g.g c.requires c.loop-g-test.true in (
      length-set c.loop-g.word-items c.loop-g.g c.unwrap_or.result ∙ c.loop-g.invariant.0,
      below_more _ _
          (λ k h. let ne : k ≢ c.loop-g.g = omega arith in rw get_or-set_other (c.loop-g.invariant.1 k h))
          (rw get_or-set_same said),
    )

pub returns : goal.returns
returns c =
    starts_are (view c.args.table.now) c.args.table.now.fit c.args.switch c.requires c.loop-g.word-items c.loop-g.invariant.0 (λ k lt. c.loop-g.invariant.1 k (omega (arith, lt, c.loop-g-test.false)))
