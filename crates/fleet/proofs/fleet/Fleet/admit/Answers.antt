use Rattle.fleet.proofs.Refused.{handed_on}
use Rattle.fleet.proofs.fleet.Fleet.admit.Goals as goal

pub returns-in_err-ready-clause-value : goal.returns-in_err-ready-clause-value
returns-in_err-ready-clause-value g c = λ sound.
    handed_on _ _ c.in_err-ready.field-0.0 (c.in_err-ready.ensures.value sound) c.from_residual.result c.from_residual.ensures.1
