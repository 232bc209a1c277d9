-- What is printed of what the switches know. Assumes nothing.
use Rattle.std.specs.Prelude.{ℕ, ◌+◌, ◌*◌, ◌/◌, ◌%◌, Bool, true, false, List, [], ◌∷◌, ◌++◌, length, codes, decimal, ◌==◌}
use Rattle.table.specs.Tables.{Table}
use Rattle.fleet.specs.declared.call.Known.{Known}
use Rattle.listing.specs.Texts.{newline}
use Rattle.listing.specs.declared.knowledge.Entry.{Entry}

-- entry i: each node of each switch at each switch, in order
abbrev pub entry_of : Table → ℕ → Known → Entry
entry_of t i x = record {
  switch = i / (t.switches * length t.nodes);
  of = i / length t.nodes % t.switches;
  first = (i % length t.nodes == 0);
  last = (i % length t.nodes + 1 == length t.nodes);
  known = x;
}

-- a line begins before its first word
abbrev pub begun : Bool → ℕ → ℕ → ℕ → List ℕ → List ℕ
begun true switch of count rest = decimal switch ++ (codes " " ++ (decimal of ++ (codes " " ++ (decimal count ++ rest))))
begun false switch of count rest = rest

-- and ends after its last
abbrev pub ended : Bool → List ℕ
ended true = newline
ended false = []

abbrev pub entry_text : Entry → List ℕ
entry_text e = begun e.first e.switch e.of e.known.count (codes " " ++ (decimal e.known.word ++ ended e.last))

-- the entries from i on
unfoldable pub entries_from : Table → ℕ → List Known → List ℕ
entries_from t i [] = []
entries_from t i (x ∷ xs) = entry_text (entry_of t i x) ++ entries_from t (i + 1) xs

abbrev pub knowledge_text : Table → List Known → List ℕ
knowledge_text t known = (newline ++ (codes "switch of count words" ++ newline)) ++ entries_from t 0 known
