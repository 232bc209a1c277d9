use Rattle.std.proofs.Common.{Err, sym, ap, ◌∙◌}
use Rattle.std.proofs.lemmas.Result.{err_from_is_err_and}
use Rattle.step.proofs.Refused.{answer_refused, block_refused}
use Rattle.step.proofs.step.step.Goals as goal

pub returns-in_err-admit-clause-answer : goal.returns-in_err-admit-clause-answer
returns-in_err-admit-clause-answer g c =
    let p = err_from_is_err_and c.from_residual.result c.from_residual.ensures.1 in
    p.1 ∙ ap Err p.2 ∙ sym (answer_refused _ _ _ (sym c.admit.ensures.value ∙ c.in_err-admit.was))

pub returns-in_err-admit-clause-block : goal.returns-in_err-admit-clause-block
returns-in_err-admit-clause-block g c = sym (block_refused _ _ _ _ (sym c.admit.ensures.value ∙ c.in_err-admit.was))
