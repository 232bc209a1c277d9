use Rattle.std.proofs.Common.{◌≡◌, ◌+◌, ◌-◌, ◌*◌, [], vec_items}
use Rattle.listing.specs.Events.{call_size, calls_from}
use Rattle.listing.proofs.events.read_calls.Given as goal

abbrev pub invariant-loop-i : goal.invariant-loop-i
invariant-loop-i l =
    (l.reader.bytes.now ≡ l.initial.reader.bytes.now) × (l.reader.at ≡ l.initial.reader.at + l._i * call_size)
    × (calls_from l.initial.reader.bytes.now l.reader.at (l.count - l._i) (vec_items l.calls) ≡ calls_from l.initial.reader.bytes.now l.initial.reader.at l.count [])
