-- The numbers that a node names. Assumes nothing.
use Rattle.std.specs.Prelude.{ℕ, suc, Bool, true, ◌&&◌, List, [], ◌∷◌, nat_lt}
use Rattle.table.specs.Limits.{register_count}
use Rattle.table.specs.declared.node.Node.{Node}
use Rattle.table.specs.declared.node.Rule.{Rule}
use Rattle.table.specs.declared.node.Node.TheVariants.{Truth, Not, And, Or, Implies, Iff, Previously, Once, Always, Since, TruthAt, Within, Same, Constant, Register, Join, Cut, ReadingAt}

-- switches below n, nodes below i, and registers that a switch has
abbrev pub names_below : ℕ → ℕ → Node → Bool
names_below n i (Truth b) = true
names_below n i (Not a) = nat_lt a i
names_below n i (And a b) = nat_lt a i && nat_lt b i
names_below n i (Or a b) = nat_lt a i && nat_lt b i
names_below n i (Implies a b) = nat_lt a i && nat_lt b i
names_below n i (Iff a b) = nat_lt a i && nat_lt b i
names_below n i (Previously a) = nat_lt a i
names_below n i (Once a) = nat_lt a i
names_below n i (Always a) = nat_lt a i
names_below n i (Since a b) = nat_lt a i && nat_lt b i
names_below n i (TruthAt j b) = nat_lt j n && nat_lt b i
names_below n i (Within a b) = nat_lt a i && nat_lt b i
names_below n i (Same a b) = nat_lt a i && nat_lt b i
names_below n i (Constant w) = true
names_below n i (Register g) = nat_lt g register_count
names_below n i (Join a b) = nat_lt a i && nat_lt b i
names_below n i (Cut a b) = nat_lt a i && nat_lt b i
names_below n i (ReadingAt j b) = nat_lt j n && nat_lt b i

-- the nodes xs, the first of which is node i, each name only lower nodes
unfoldable pub all_named : ℕ → ℕ → List Node → Bool
all_named n i [] = true
all_named n i (x ∷ xs) = names_below n i x && all_named n (suc i) xs

-- the rules' nodes are below m
unfoldable pub rules_below : ℕ → List Rule → Bool
rules_below m [] = true
rules_below m (r ∷ rs) = nat_lt r.node m && rules_below m rs
