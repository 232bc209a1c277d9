-- The digits of `&` with the complement are the difference.
use Rattle.std.proofs.Common.{rules}
use Rattle.readings.specs.PortSets.{cut_is, cut_is_turned}
use Rattle.readings.proofs.ports.PortsReading.cut.Goals as goal

pub returns : goal.returns
returns c = search (rules, cut_is, cut_is_turned)
