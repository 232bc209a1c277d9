-- Two words are equal where they have the same ports.
use Rattle.std.proofs.Common.{rules}
use Rattle.readings.specs.PortSets.{same_is}
use Rattle.readings.proofs.ports.PortsReading.same.Goals as goal

pub returns : goal.returns
returns c = search (rules, same_is)
