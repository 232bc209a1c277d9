use Rattle.std.proofs.Common.{◌≡◌, ◌+◌, ◌-◌, ◌*◌, []}
use Rattle.table.specs.Tables.{words_at, words_from}
use Rattle.table.proofs.table.parse.read_words.Given as goal

abbrev pub invariant-loop-i : goal.invariant-loop-i
invariant-loop-i l =
    (l.reader.bytes.now ≡ l.initial.reader.bytes.now) × (l.reader.at ≡ l.initial.reader.at + l._i * 4)
    × (words_from l.initial.reader.bytes.now l.reader.at (l.count - l._i) (words_at l.initial.reader.bytes.now l.initial.reader.at l._i) ≡ words_from l.initial.reader.bytes.now l.initial.reader.at l.count [])
