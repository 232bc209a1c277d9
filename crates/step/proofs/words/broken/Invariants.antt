use Rattle.step.proofs.Masks.{Done}
use Rattle.step.proofs.words.broken.Given as goal

abbrev pub invariant-loop-rule : goal.invariant-loop-rule
invariant-loop-rule l = Done l.switch l.words l.rules l.rule-iterator.iter.rest.now l.mask
