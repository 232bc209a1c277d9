-- The worked values compute.
use Rattle.std.proofs.Common.{refl}
use Rattle.readings.specs.PortSets.{ports_are_sets}
use Rattle.readings.proofs.theorems.readings_stand.Goals as goal
use Rattle.readings.specs.Ports.{collect, has}

pub returns : goal.returns
unfolding collect has
returns c = record { sets = ports_are_sets; worked = (refl, refl, refl) }
