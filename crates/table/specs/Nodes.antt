-- The node kinds: the three words of each, and what a node may name. Assumes nothing.
use Rattle.std.specs.Prelude.{ℕ, Bool, true, false, cond, not, ◌&&◌, List, length, Some, None, Option, ◌==◌, nat_lt, slice_index_or}
use Rattle.table.specs.Limits.{register_count}
use Rattle.table.specs.declared.node.Node.{Node}
use Rattle.table.specs.declared.node.Node.TheVariants.{Truth, Not, And, Or, Implies, Iff, Previously, Once, Always, Since, TruthAt, Within, Same, Constant, Register, Join, Cut, ReadingAt}
use Rattle.table.specs.declared.node.Rule.{Rule}

-- the words kind, a and b of a node
abbrev pub kind_word : Node → ℕ
kind_word (Truth v) = 0
kind_word (Not a) = 1
kind_word (And a b) = 2
kind_word (Or a b) = 3
kind_word (Implies a b) = 4
kind_word (Iff a b) = 5
kind_word (Previously a) = 6
kind_word (Once a) = 7
kind_word (Always a) = 8
kind_word (Since a b) = 9
kind_word (TruthAt s b) = 10
kind_word (Within a b) = 11
kind_word (Same a b) = 12
kind_word (Constant w) = 20
kind_word (Register g) = 21
kind_word (Join a b) = 22
kind_word (Cut a b) = 23
kind_word (ReadingAt s b) = 24

abbrev pub a_word : Node → ℕ
a_word (Truth v) = cond v 1 0
a_word (Not a) = a
a_word (And a b) = a
a_word (Or a b) = a
a_word (Implies a b) = a
a_word (Iff a b) = a
a_word (Previously a) = a
a_word (Once a) = a
a_word (Always a) = a
a_word (Since a b) = a
a_word (TruthAt s b) = s
a_word (Within a b) = a
a_word (Same a b) = a
a_word (Constant w) = w
a_word (Register g) = g
a_word (Join a b) = a
a_word (Cut a b) = a
a_word (ReadingAt s b) = s

-- 0 where the kind does not use it
abbrev pub b_word : Node → ℕ
b_word (Truth v) = 0
b_word (Not a) = 0
b_word (And a b) = b
b_word (Or a b) = b
b_word (Implies a b) = b
b_word (Iff a b) = b
b_word (Previously a) = 0
b_word (Once a) = 0
b_word (Always a) = 0
b_word (Since a b) = b
b_word (TruthAt s b) = b
b_word (Within a b) = b
b_word (Same a b) = b
b_word (Constant w) = 0
b_word (Register g) = 0
b_word (Join a b) = b
b_word (Cut a b) = b
b_word (ReadingAt s b) = b

-- a node whose kind does not use the word w
abbrev pub unused : ℕ → Node → Option Node
unused w x = cond (w == 0) (Some x) None

abbrev pub truth_constant : ℕ → ℕ → Option Node
truth_constant a b = cond (a == 0) (unused b (Truth false)) (cond (a == 1) (unused b (Truth true)) None)

abbrev pub register : ℕ → ℕ → Option Node
register a b = cond (nat_lt a register_count) (unused b (Register a)) None

-- the node with the words kind, a and b
abbrev pub decoded : ℕ → ℕ → ℕ → Option Node
decoded kind a b =
    cond (kind == 0) (truth_constant a b)
    (cond (kind == 1) (unused b (Not a))
    (cond (kind == 2) (Some (And a b))
    (cond (kind == 3) (Some (Or a b))
    (cond (kind == 4) (Some (Implies a b))
    (cond (kind == 5) (Some (Iff a b))
    (cond (kind == 6) (unused b (Previously a))
    (cond (kind == 7) (unused b (Once a))
    (cond (kind == 8) (unused b (Always a))
    (cond (kind == 9) (Some (Since a b))
    (cond (kind == 10) (Some (TruthAt a b))
    (cond (kind == 11) (Some (Within a b))
    (cond (kind == 12) (Some (Same a b))
    (cond (kind == 20) (unused b (Constant a))
    (cond (kind == 21) (register a b)
    (cond (kind == 22) (Some (Join a b))
    (cond (kind == 23) (Some (Cut a b))
    (cond (kind == 24) (Some (ReadingAt a b))
    None)))))))))))))))))

-- a truth node has a truth for its value, any other a reading
abbrev pub is_truth : Node → Bool
is_truth (Truth v) = true
is_truth (Not a) = true
is_truth (And a b) = true
is_truth (Or a b) = true
is_truth (Implies a b) = true
is_truth (Iff a b) = true
is_truth (Previously a) = true
is_truth (Once a) = true
is_truth (Always a) = true
is_truth (Since a b) = true
is_truth (TruthAt s b) = true
is_truth (Within a b) = true
is_truth (Same a b) = true
is_truth (Constant w) = false
is_truth (Register g) = false
is_truth (Join a b) = false
is_truth (Cut a b) = false
is_truth (ReadingAt s b) = false

-- node a is one of these, and a truth node, or a reading node
unfoldable pub truth_node : List Node → ℕ → Bool
truth_node earlier a = nat_lt a (length earlier) && is_truth (slice_index_or earlier a (Truth false))

unfoldable pub reading_node : List Node → ℕ → Bool
reading_node earlier a = nat_lt a (length earlier) && not (is_truth (slice_index_or earlier a (Truth false)))

-- what a node names: switches below n, and earlier nodes of the right sort
abbrev pub node_fits : ℕ → List Node → Node → Bool
node_fits n earlier (Truth v) = true
node_fits n earlier (Not a) = truth_node earlier a
node_fits n earlier (And a b) = truth_node earlier a && truth_node earlier b
node_fits n earlier (Or a b) = truth_node earlier a && truth_node earlier b
node_fits n earlier (Implies a b) = truth_node earlier a && truth_node earlier b
node_fits n earlier (Iff a b) = truth_node earlier a && truth_node earlier b
node_fits n earlier (Previously a) = truth_node earlier a
node_fits n earlier (Once a) = truth_node earlier a
node_fits n earlier (Always a) = truth_node earlier a
node_fits n earlier (Since a b) = truth_node earlier a && truth_node earlier b
node_fits n earlier (TruthAt s b) = nat_lt s n && truth_node earlier b
node_fits n earlier (Within a b) = reading_node earlier a && reading_node earlier b
node_fits n earlier (Same a b) = reading_node earlier a && reading_node earlier b
node_fits n earlier (Constant w) = true
node_fits n earlier (Register g) = true
node_fits n earlier (Join a b) = reading_node earlier a && reading_node earlier b
node_fits n earlier (Cut a b) = reading_node earlier a && reading_node earlier b
node_fits n earlier (ReadingAt s b) = nat_lt s n && reading_node earlier b

-- a rule is at a switch below n, about a truth node
abbrev pub rule_fits : ℕ → List Node → Rule → Bool
rule_fits n nodes r = nat_lt r.switch n && truth_node nodes r.node
