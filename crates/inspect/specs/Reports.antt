-- What is printed of a table, accepted or refused. Assumes nothing.
use Rattle.std.specs.Prelude.{ℕ, List, [], ◌∷◌, ◌++◌, length, codes, decimal}
use Rattle.inspect.specs.declared.report.Summary.{Summary}
use Rattle.table.specs.Refusals.{number}
use Rattle.table.specs.Tables.{Table, table_length}
use Rattle.table.specs.declared.fault.Fault.{Fault}
use Rattle.table.specs.declared.fault.Reason.{Reason}
use Rattle.table.specs.declared.fault.Reason.TheVariants.{TableLength, TableField, Node, Rule}
use Rattle.table.specs.declared.kind.Kind.{Kind}
use Rattle.table.specs.declared.kind.Kind.TheVariants.{Numbers, Ports}

abbrev pub newline : List ℕ
newline = 10 ∷ []

abbrev pub kind_name : Kind → List ℕ
kind_name Numbers = codes "numbers"
kind_name Ports = codes "port sets"

-- the figures of the table t
abbrev pub summary_of : Kind → Table → Summary
summary_of k t = record {
  kind = k;
  code = t.code;
  switches = t.switches;
  nodes = length t.nodes;
  rules = length t.rules;
  length = table_length t;
}

-- a further line, with a name and a number
abbrev pub figure : List ℕ → ℕ → List ℕ
figure name n = newline ++ (name ++ decimal n)

abbrev pub summary_text : Summary → List ℕ
summary_text s =
    codes "table accepted" ++ (newline ++ (codes "kind      " ++ (kind_name s.kind ++ (codes " (code " ++ (decimal s.code ++ (codes ")"
    ++ (figure (codes "switches  ") s.switches
    ++ (figure (codes "nodes     ") s.nodes
    ++ (figure (codes "rules     ") s.rules
    ++ figure (codes "bytes     ") s.length)))))))))

-- what the place is, in the words before it
abbrev pub subject : Reason → List ℕ
subject TableLength = codes "the table ends before the field at byte"
subject TableField = codes "the field at byte"
subject Node = codes "node"
subject Rule = codes "rule"
subject _ = codes "place"

-- what is wrong there, in the words after it
abbrev pub complaint : Reason → List ℕ
complaint TableLength = codes ", or has bytes left from there"
complaint TableField = codes " is out of range or names a foreign kind"
complaint Node = codes " is not allowed: its kind, a switch, a register or a node that it names"
complaint Rule = codes " names a switch that the table lacks, or a node that is no truth node"
complaint _ = codes " is refused"

abbrev pub refusal_text : Fault → List ℕ
refusal_text e =
    codes "table refused " ++ (decimal (number e.reason) ++ (codes " " ++ (decimal e.place ++ (newline
    ++ (subject e.reason ++ (codes " " ++ (decimal e.place ++ complaint e.reason)))))))
