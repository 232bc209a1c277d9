use Rattle.std.proofs.Common.{◌≡◌, ℕ, ◌<◌}
use Rattle.table.specs.Views.{view}
use Rattle.step.specs.Nodes.{on_words}
use Rattle.step.specs.Opening.{opened}
use Rattle.fleet.specs.Blocks.{block_in}
use Rattle.fleet.proofs.blocks.open_blocks.Given as goal

abbrev pub invariant-loop-switch : goal.invariant-loop-switch
invariant-loop-switch g l =
    (s : ℕ) → s < l.switch → block_in (view l.table) l.memory s ≡ opened (on_words g.K.Reading.kind) (view l.table) s
