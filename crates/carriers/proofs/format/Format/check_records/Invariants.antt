use Rattle.std.proofs.Common.{◌≡◌, Ok}
use Rattle.carriers.specs.Copies.{record_offset, records_read}
use Rattle.carriers.proofs.format.Format.check_records.Given as goal

abbrev pub invariant-loop-j : goal.invariant-loop-j
invariant-loop-j l =
    (l.reader.bytes.now ≡ l.initial.reader.bytes.now) × (l.reader.at ≡ record_offset l.self.nodes l._j)
    × (records_read l._j l.self.nodes l.initial.reader.bytes.now ≡ Ok tt)
