use Rattle.std.proofs.Common.{◌≡◌, ◌+◌, ◌*◌, Ok}
use Rattle.table.specs.Wire.{field}
use Rattle.table.specs.declared.fault.Reason.TheVariants.{Copy}
use Rattle.carriers.specs.Copies.{each_read}
use Rattle.carriers.proofs.copy.checking.check_words.Given as goal

abbrev pub invariant-loop-i : goal.invariant-loop-i
invariant-loop-i l =
    (l.reader.bytes.now ≡ l.initial.reader.bytes.now) × (l.reader.at ≡ l.initial.reader.at + l._i * 4)
    × (each_read (λ i. field Copy l.initial.reader.bytes.now (l.initial.reader.at + i * 4)) l._i ≡ Ok tt)
