-- What a sound table's nodes and rules name. Assumes nothing.
use Rattle.std.proofs.Common.{◌≡◌, ℕ, suc, true, ltb, List, [], ◌∷◌, ◌++◌, length, sym, refl, ap, ◌∙◌, add-one}
use Rattle.std.proofs.lemmas.Bool.{and_parts, and_from}
use Rattle.std.proofs.lemmas.List.{length_push}
use Rattle.table.specs.Nodes.{truth_node, reading_node, node_fits, rule_fits}
use Rattle.table.specs.Tables.{node_holds, nodes_sound, every}
use Rattle.table.specs.declared.node.Node.{Node}
use Rattle.table.specs.declared.node.Node.TheVariants.{Truth, Not, And, Or, Implies, Iff, Previously, Once, Always, Since, TruthAt, Within, Same, Constant, Register, Join, Cut, ReadingAt}
use Rattle.table.specs.declared.node.Rule.{Rule}
use Rattle.step.specs.Names.{names_below, all_named, rules_below}

truth_below : (xs : List Node) (a : ℕ) → truth_node xs a ≡ true → ltb a (length xs) ≡ true
unfolding truth_node
truth_below xs a h = (and_parts _ _ h).0

reading_below : (xs : List Node) (a : ℕ) → reading_node xs a ≡ true → ltb a (length xs) ≡ true
unfolding reading_node
reading_below xs a h = (and_parts _ _ h).0

named_one : (n : ℕ) (earlier : List Node) (x : Node) → node_holds x ≡ true → node_fits n earlier x ≡ true → names_below n (length earlier) x ≡ true
named_one n earlier (Truth v) holds fits = refl
named_one n earlier (Not a) holds fits = truth_below earlier a fits
named_one n earlier (And a b) holds fits = and_from _ _ (truth_below earlier a (and_parts _ _ fits).0) (truth_below earlier b (and_parts _ _ fits).1)
named_one n earlier (Or a b) holds fits = and_from _ _ (truth_below earlier a (and_parts _ _ fits).0) (truth_below earlier b (and_parts _ _ fits).1)
named_one n earlier (Implies a b) holds fits = and_from _ _ (truth_below earlier a (and_parts _ _ fits).0) (truth_below earlier b (and_parts _ _ fits).1)
named_one n earlier (Iff a b) holds fits = and_from _ _ (truth_below earlier a (and_parts _ _ fits).0) (truth_below earlier b (and_parts _ _ fits).1)
named_one n earlier (Previously a) holds fits = truth_below earlier a fits
named_one n earlier (Once a) holds fits = truth_below earlier a fits
named_one n earlier (Always a) holds fits = truth_below earlier a fits
named_one n earlier (Since a b) holds fits = and_from _ _ (truth_below earlier a (and_parts _ _ fits).0) (truth_below earlier b (and_parts _ _ fits).1)
named_one n earlier (TruthAt j b) holds fits = and_from _ _ (and_parts _ _ fits).0 (truth_below earlier b (and_parts _ _ fits).1)
named_one n earlier (Within a b) holds fits = and_from _ _ (reading_below earlier a (and_parts _ _ fits).0) (reading_below earlier b (and_parts _ _ fits).1)
named_one n earlier (Same a b) holds fits = and_from _ _ (reading_below earlier a (and_parts _ _ fits).0) (reading_below earlier b (and_parts _ _ fits).1)
named_one n earlier (Constant v) holds fits = refl
named_one n earlier (Register g) holds fits = holds
named_one n earlier (Join a b) holds fits = and_from _ _ (reading_below earlier a (and_parts _ _ fits).0) (reading_below earlier b (and_parts _ _ fits).1)
named_one n earlier (Cut a b) holds fits = and_from _ _ (reading_below earlier a (and_parts _ _ fits).0) (reading_below earlier b (and_parts _ _ fits).1)
named_one n earlier (ReadingAt j b) holds fits = and_from _ _ (and_parts _ _ fits).0 (reading_below earlier b (and_parts _ _ fits).1)

pub sound_named : (n : ℕ) (earlier xs : List Node) → nodes_sound n earlier xs ≡ true → all_named n (length earlier) xs ≡ true
unfolding nodes_sound all_named
sound_named n earlier [] h = refl
sound_named n earlier (x ∷ xs) h =
    let here = (and_parts _ _ h).0 in
    let longer : length (earlier ++ x ∷ []) ≡ suc (length earlier) = length_push earlier x ∙ add-one (length earlier) in
    and_from _ _ (named_one n earlier x (and_parts _ _ here).0 (and_parts _ _ here).1)
    (ap (λ k. all_named n k xs) (sym longer) ∙ sound_named n (earlier ++ x ∷ []) xs (and_parts _ _ h).1)

pub sound_rules : (n : ℕ) (nodes : List Node) (rs : List Rule) → every (rule_fits n nodes) rs ≡ true → rules_below (length nodes) rs ≡ true
unfolding rules_below
sound_rules n nodes [] h = refl
sound_rules n nodes (r ∷ rs) h =
    and_from _ _ (truth_below nodes r.node (and_parts _ _ (and_parts _ _ h).0).1) (sound_rules n nodes rs (and_parts _ _ h).1)
