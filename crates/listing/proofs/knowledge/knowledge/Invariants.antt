use Rattle.std.proofs.Common.{◌≡◌, ◌++◌, drop, string_bytes}
use Rattle.table.specs.Views.{view}
use Rattle.listing.specs.Knowledge.{entries_from, knowledge_text}
use Rattle.listing.proofs.knowledge.knowledge.Given as goal

abbrev pub invariant-loop-i : goal.invariant-loop-i
invariant-loop-i l = string_bytes l.text ++ entries_from (view l.table) l.i (drop l.i l.known) ≡ knowledge_text (view l.table) l.known
