use Rattle.std.proofs.Common.{◌≡◌}
use Rattle.std.specs.List.{flat_map}
use Rattle.table.specs.Wire.{word_bytes}
use Rattle.carriers.specs.Copies.{records_fields}
use Rattle.carriers.specs.Memory.{placed}
use Rattle.carriers.proofs.format.Format.put_records.Given as goal

abbrev pub invariant-loop-j : goal.invariant-loop-j
invariant-loop-j l = l.bytes ≡ placed l.initial.bytes 12 (flat_map word_bytes (records_fields l.self.nodes l.records l.j))
