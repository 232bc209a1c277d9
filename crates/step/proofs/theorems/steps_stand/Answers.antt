use Rattle.std.proofs.Common.{refl}
use Rattle.step.specs.Opening.{column, columns}
use Rattle.step.specs.Steps.{new_words}
use Rattle.step.proofs.theorems.steps_stand.Goals as goal

-- by computation
pub returns : goal.returns
unfolding column columns new_words
returns c = (refl, refl, refl, refl)
