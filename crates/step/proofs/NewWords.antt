-- The own words, one node after another. Assumes nothing.
use Rattle.std.proofs.Common.{◌≡◌, ℕ, zero, suc, ◌+◌, ◌<◌, ◌≤◌, true, List, [], ◌∷◌, ◌++◌, length, get_or, take, drop, set, sym, ap, ◌∙◌, add-zero, arith}
use Rattle.std.proofs.lemmas.Bool.{and_parts}
use Rattle.std.proofs.lemmas.List.{take_more_set, drop_more, drop_all, take_all}
use Rattle.table.specs.declared.node.Node.{Node}
use Rattle.step.specs.Names.{all_named, names_below}
use Rattle.step.specs.Nodes.{WordKind}
use Rattle.step.specs.Steps.{new_words, own_word}

-- node i of those whose first is node k
pub named_at : (n k : ℕ) (xs : List Node) (d : Node) (i at : ℕ) → i < length xs → at ≡ k + i → all_named n k xs ≡ true → names_below n at (get_or xs i d) ≡ true
unfolding all_named
named_at n k [] d i at lt place h = absurd (omega arith)
named_at n k (x ∷ xs) d zero at lt place h = ap (λ z. names_below n z x) (place ∙ add-zero k) ∙ (and_parts _ _ h).0
named_at n k (x ∷ xs) d (suc i) at lt place h = named_at n (suc k) xs d i at (omega arith) (omega arith) (and_parts _ _ h).1

module _ (k : WordKind) (m s : ℕ) (block registers : List ℕ) where
  -- one word more, pushed to ws
  pub words_turn : (xs : List Node) (d : Node) (i : ℕ) (ws ws' all : List ℕ) (w : ℕ) (vs : List ℕ) → i < length xs → vs ≡ ws → w ≡ own_word k m s block registers vs (get_or xs i d) → ws' ≡ ws ++ w ∷ []
      → new_words k m s block registers (drop i xs) ws ≡ all
      → new_words k m s block registers (drop (i + 1) xs) ws' ≡ all
  unfolding new_words
  words_turn xs d i ws ws' all w vs lt same said pushed sofar =
      let now = said ∙ ap (λ z. own_word k m s block registers z (get_or xs i d)) same in
      ap (new_words k m s block registers (drop (i + 1) xs)) (pushed ∙ ap (λ v. ws ++ v ∷ []) now)
      ∙ sym (ap (λ ys. new_words k m s block registers ys ws) (drop_more xs i d lt))
      ∙ sofar

  pub words_done : (xs : List Node) (i : ℕ) (ws all : List ℕ) → length xs ≤ i → new_words k m s block registers (drop i xs) ws ≡ all → ws ≡ all
  unfolding new_words
  words_done xs i ws all end sofar =
      sym (ap (λ ys. new_words k m s block registers ys ws) (drop_all i xs end)) ∙ sofar
