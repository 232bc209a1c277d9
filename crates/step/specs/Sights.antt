-- What a sight in the code stands for. Assumes nothing.
use Rattle.std.specs.Prelude.{ℕ, Bool}
use Rattle.step.specs.Nodes as nodes
use Rattle.step.specs.Truths.{truth}
use Rattle.step.specs.declared.sight.Sight.{Sight}
use Rattle.step.specs.declared.sight.eval.Past.{Past}
use Rattle.step.specs.declared.sight.eval.Past.TheVariants.{First, Later}

abbrev pub seen : Sight → nodes.Sight
seen v = record {
  switch = v.place.switch;
  nodes = v.place.records.nodes;
  words = v.words.now;
  records = v.place.records.words.now;
  registers = v.place.registers.now;
}

-- the past of node i
abbrev pub past_of : nodes.Sight → Past → ℕ → nodes.Past
past_of v First i = nodes.first v
past_of v Later i = nodes.later v i

-- whether the own node i was true before; none where there is no past
abbrev pub was : nodes.Sight → Past → ℕ → Bool → Bool
was v First i none = none
was v Later i none = truth (nodes.before v i)
