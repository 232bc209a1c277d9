use Rattle.fleet.proofs.Refused.{handed_out}
use Rattle.fleet.proofs.fleet.Fleet.look.Goals as goal

pub returns-in_err-ready : goal.returns-in_err-ready
returns-in_err-ready g c = λ sound.
    handed_out _ _ c.in_err-ready.field-0.0 (c.in_err-ready.ensures.value sound) _ c.from_residual.result c.from_residual.ensures.1
