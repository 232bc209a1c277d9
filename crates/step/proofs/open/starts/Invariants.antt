use Rattle.std.proofs.Common.{◌≡◌, ℕ, ◌+◌, ◌*◌, ◌<◌, length, get_or}
use Rattle.table.specs.Limits.{register_count}
use Rattle.table.specs.Views.{view}
use Rattle.step.proofs.open.starts.Given as goal

abbrev pub invariant-loop-g : goal.invariant-loop-g
invariant-loop-g l =
    (length l.word-items ≡ register_count)
    × ((k : ℕ) → k < l.g → get_or l.word-items k 0 ≡ get_or (view l.table).starts (l.switch * register_count + k) 0)
