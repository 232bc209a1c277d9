-- How the nodes of a table are written. Assumes nothing.
use Rattle.std.specs.Prelude.{ℕ, zero, suc, ◌<◌, Bool, true, false, cond, not, ◌&&◌, List, [], ◌++◌, length, codes, decimal, ◌==◌, nat_le, nat_lt, slice_index_or}
use Rattle.inspect.specs.Values.{value_text}
use Rattle.inspect.specs.declared.formula.Form.{Form}
use Rattle.inspect.specs.declared.formula.Form.TheVariants as form
use Rattle.inspect.specs.declared.formula.Infix.{Infix}
use Rattle.inspect.specs.declared.formula.Infix.TheVariants as op
use Rattle.inspect.specs.declared.formula.Prefix.{Prefix}
use Rattle.inspect.specs.declared.formula.Prefix.TheVariants as pre
use Rattle.inspect.specs.declared.formula.Strength.{Strength}
use Rattle.inspect.specs.declared.formula.Strength.TheVariants.{Whole, Connective, Comparison, Sum, Tight, Leaf}
use Rattle.table.specs.declared.kind.Kind.{Kind}
use Rattle.table.specs.declared.kind.Kind.TheVariants.{Numbers, Ports}
use Rattle.table.specs.declared.node.Node.{Node}
use Rattle.table.specs.declared.node.Node.TheVariants.{Truth, Not, And, Or, Implies, Iff, Previously, Once, Always, Since, TruthAt, Within, Same, Constant, Register, Join, Cut, ReadingAt}

abbrev pub prefix_word : Prefix → List ℕ
prefix_word pre.Not = codes "not"
prefix_word pre.Previously = codes "previously"
prefix_word pre.Once = codes "once"
prefix_word pre.Always = codes "always"

-- what a kind calls within, join and cut
abbrev pub by_kind : Kind → List ℕ → List ℕ → List ℕ
by_kind Numbers number ports = number
by_kind Ports number ports = ports

abbrev pub infix_word : Infix → Kind → List ℕ
infix_word op.And k = codes "and"
infix_word op.Or k = codes "or"
infix_word op.Implies k = codes "implies"
infix_word op.Iff k = codes "iff"
infix_word op.Since k = codes "since"
infix_word op.Within k = by_kind k (codes "<=") (codes "within")
infix_word op.Same k = codes "="
infix_word op.Join k = by_kind k (codes "+") (codes "union")
infix_word op.Cut k = by_kind k (codes "-") (codes "minus")

-- the form of a node that is written out
abbrev pub form_of : Node → Form
form_of (Truth v) = form.Truth v
form_of (Not a) = form.Prefix pre.Not a
form_of (And a b) = form.Infix op.And a b
form_of (Or a b) = form.Infix op.Or a b
form_of (Implies a b) = form.Infix op.Implies a b
form_of (Iff a b) = form.Infix op.Iff a b
form_of (Previously a) = form.Prefix pre.Previously a
form_of (Once a) = form.Prefix pre.Once a
form_of (Always a) = form.Prefix pre.Always a
form_of (Since a b) = form.Infix op.Since a b
form_of (TruthAt s a) = form.At a s
form_of (Within a b) = form.Infix op.Within a b
form_of (Same a b) = form.Infix op.Same a b
form_of (Constant w) = form.Constant w
form_of (Register g) = form.Register g
form_of (Join a b) = form.Infix op.Join a b
form_of (Cut a b) = form.Infix op.Cut a b
form_of (ReadingAt s a) = form.At a s

-- it has no operands
abbrev pub is_leaf : Form → Bool
is_leaf (form.Truth v) = true
is_leaf (form.Register g) = true
is_leaf (form.Constant w) = true
is_leaf (form.Prefix p a) = false
is_leaf (form.Infix i a b) = false
is_leaf (form.At a s) = false
is_leaf (form.Name n) = true

-- node n, written out where d nodes within one another may be, and shown by its number where none may
abbrev pub form_at : List Node → ℕ → ℕ → Form
form_at nodes n d =
    cond (nat_lt n (length nodes))
    (cond (d == 0 && not (is_leaf (form_of (slice_index_or nodes n (Truth false))))) (form.Name n) (form_of (slice_index_or nodes n (Truth false))))
    (form.Name n)

-- a form with operands needs a depth for them
abbrev pub Deep : Form → ℕ → Type 0
Deep (form.Truth v) d = Unit {0}
Deep (form.Register g) d = Unit {0}
Deep (form.Constant w) d = Unit {0}
Deep (form.Prefix p a) d = 0 < d
Deep (form.Infix i a b) d = 0 < d
Deep (form.At a s) d = 0 < d
Deep (form.Name n) d = Unit {0}

abbrev pub infix_strength : Infix → Strength
infix_strength op.And = Connective
infix_strength op.Or = Connective
infix_strength op.Implies = Connective
infix_strength op.Iff = Connective
infix_strength op.Since = Connective
infix_strength op.Within = Comparison
infix_strength op.Same = Comparison
infix_strength op.Join = Sum
infix_strength op.Cut = Sum

abbrev pub form_strength : Form → Strength
form_strength (form.Truth v) = Leaf
form_strength (form.Register g) = Leaf
form_strength (form.Constant w) = Leaf
form_strength (form.Prefix p a) = Tight
form_strength (form.Infix i a b) = infix_strength i
form_strength (form.At a s) = Tight
form_strength (form.Name n) = Leaf

-- how tightly a form of this strength holds its operands
abbrev pub rank_of : Strength → ℕ
rank_of Whole = 0
rank_of Connective = 1
rank_of Comparison = 2
rank_of Sum = 3
rank_of Tight = 4
rank_of Leaf = 5

-- a parenthesis, if the form is in parentheses
abbrev pub bracket_text : Bool → List ℕ → List ℕ
bracket_text b bracket = cond b bracket []

abbrev pub opening : Bool → List ℕ
opening b = bracket_text b (codes "(")

abbrev pub closing : Bool → List ℕ
closing b = bracket_text b (codes ")")

-- what stands between the parentheses; part writes an operand within a form of a strength
abbrev pub body_text : Kind → Form → (ℕ → Strength → List ℕ) → List ℕ
body_text k (form.Truth v) part = cond v (codes "true") (codes "false")
body_text k (form.Register g) part = codes "register " ++ decimal g
body_text k (form.Constant w) part = value_text k w
body_text k (form.Prefix p a) part = prefix_word p ++ (codes " " ++ part a Tight)
body_text k (form.Infix i a b) part = part a (infix_strength i) ++ (codes " " ++ (infix_word i k ++ (codes " " ++ part b (infix_strength i))))
body_text k (form.At a s) part = part a Tight ++ (codes " at switch " ++ decimal s)
body_text k (form.Name n) part = codes "n" ++ decimal n

-- in parentheses where it is no tighter than the form around it
abbrev pub form_text : Kind → Form → Strength → (ℕ → Strength → List ℕ) → List ℕ
form_text k x around part =
    opening (nat_le (rank_of (form_strength x)) (rank_of around))
    ++ (body_text k x part ++ closing (nat_le (rank_of (form_strength x)) (rank_of around)))

-- node n within a form of the strength around, with d nodes within one another written out
unfoldable pub formula_text : Kind → List Node → ℕ → ℕ → Strength → List ℕ
formula_text k nodes zero n around = form_text k (form_at nodes n 0) around (λ a x. [])
formula_text k nodes (suc d) n around = form_text k (form_at nodes n (suc d)) around (λ a x. formula_text k nodes d a x)
