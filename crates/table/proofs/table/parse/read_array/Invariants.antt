use Rattle.std.proofs.Common.{◌≡◌, ◌+◌, ◌-◌, ◌*◌, [], length}
use Rattle.table.specs.Tables.{items_from}
use Rattle.table.proofs.table.parse.read_array.Given as goal

abbrev pub invariant-loop-i : goal.invariant-loop-i
invariant-loop-i g l =
    (l.reader.bytes.now ≡ l.initial.reader.bytes.now) × (l.reader.at ≡ l.initial.reader.at + l._i * g.T.Element.size)
    × (length l.array.items ≡ l._i)
    × (items_from (g.T.Element.read l.switches l.nodes l.initial.reader.bytes.now) g.T.Element.size l.reader.at (l.count - l._i) l.array.items
    ≡ items_from (g.T.Element.read l.switches l.nodes l.initial.reader.bytes.now) g.T.Element.size l.initial.reader.at l.count [])
