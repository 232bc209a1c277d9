-- Changes of a block, one after another. Assumes nothing.
use Rattle.std.proofs.Common.{◌≡◌, ℕ, List, ◌∙◌}
use Rattle.step.specs.Blocks.{Becomes}
use Rattle.step.specs.declared.block.Block.{Block}

pub becomes_then : {a b c : Block} {ws vs : List ℕ} (us : List ℕ) → Becomes a b ws → Becomes b c vs → vs ≡ us → Becomes a c us
becomes_then us p q same = record {
  words = q.words ∙ same;
  table = q.table ∙ p.table;
  switch = q.switch ∙ p.switch;
  reference = q.reference ∙ p.reference;
}
