-- `&` gives the first word back where all of its ports are in the second.
use Rattle.std.proofs.Common.{rules}
use Rattle.readings.specs.PortSets.{within_is, within_is_turned}
use Rattle.readings.proofs.ports.PortsReading.within.Goals as goal

pub returns : goal.returns
returns c = search (rules, within_is, within_is_turned)
