use Rattle.step.proofs.Masks.{done_none, done_more}
use Rattle.step.proofs.words.broken.Goals as goal

pub loop-rule-init : goal.loop-rule-init
loop-rule-init c = done_none _ _ _ _ cc

pub loop-rule-preserved : goal.loop-rule-preserved
loop-rule-preserved c = done_more _ _ _ _ _ _ _ _ _ c.loop-rule.invariant c.in-Some.ensures.steps c.from.ensures c.is_broken.ensures
