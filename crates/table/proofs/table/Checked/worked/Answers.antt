use Rattle.std.proofs.Common.{refl, lit≤}
use Rattle.table.specs.Nodes.{truth_node, reading_node}
use Rattle.table.specs.Tables.{nodes_sound, sound, table_bytes, words_at}
use Rattle.table.specs.Wire.{word_at}
use Rattle.table.proofs.table.Checked.worked.Goals as goal

-- by computation
pub invariant_of-result : goal.invariant_of-result
unfolding sound table_bytes nodes_sound words_at word_at truth_node reading_node
invariant_of-result c = record {
  few_switches = lit≤ tt;
  few_nodes = rw c.nodes.ensures (lit≤ tt);
  few_rules = rw c.rules.ensures (lit≤ tt);
  long = rw (c.nodes.ensures, c.rules.ensures) refl;
  fit = rw (c.nodes.ensures, c.rules.ensures) refl;
  coded = rw (c.nodes.ensures, c.rules.ensures) refl;
}

pub returns : goal.returns
unfolding words_at word_at
returns c = rw (c.nodes.ensures, c.rules.ensures) refl
