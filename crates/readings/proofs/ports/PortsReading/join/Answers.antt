-- The digits of `|` are the union.
use Rattle.std.proofs.Common.{rules}
use Rattle.readings.specs.PortSets.{join_is}
use Rattle.readings.proofs.ports.PortsReading.join.Goals as goal

pub returns : goal.returns
returns c = search (rules, join_is)
