use Rattle.std.proofs.Common.{◌≡◌}
use Rattle.carriers.specs.Copies.{records_in}
use Rattle.carriers.specs.Memory.{placed}
use Rattle.carriers.proofs.format.Format.take_records.Given as goal

abbrev pub invariant-loop-j : goal.invariant-loop-j
invariant-loop-j l = l.hand ≡ placed l.initial.hand 1 (records_in l.self.nodes l.bytes l.j)
