-- The first words, one switch and one node after another. Assumes nothing.
use Rattle.std.proofs.Common.{◌≡◌, ℕ, ◌+◌, ◌<◌, ◌≤◌, List, length, get_or, drop, sym, ap, ◌∙◌, add-one}
use Rattle.std.proofs.lemmas.List.{drop_more, drop_all}
use Rattle.table.specs.Tables.{Table}
use Rattle.table.specs.declared.node.Node.{Node}
use Rattle.step.specs.Nodes.{WordKind}
use Rattle.step.specs.Opening.{column, columns, opened_one}

module _ (k : WordKind) (t : Table) where
  -- one switch more
  pub column_more : (x : Node) (i : ℕ) (block : List ℕ) (j : ℕ) → opened_one k t x i (column k t x i block j) j ≡ column k t x i block (j + 1)
  unfolding column
  column_more x i block j = ap (column k t x i block) (sym (add-one j))

  -- one node more
  pub columns_turn : (xs : List Node) (d : Node) (i : ℕ) (block : List ℕ) (all : List ℕ) → i < length xs → columns k t (drop i xs) i block ≡ all → columns k t (drop (i + 1) xs) (i + 1) (column k t (get_or xs i d) i block t.switches) ≡ all
  unfolding columns
  columns_turn xs d i block all lt sofar =
      ap (λ z. columns k t (drop (i + 1) xs) z (column k t (get_or xs i d) i block t.switches)) (add-one i)
      ∙ sym (ap (λ ys. columns k t ys i block) (drop_more xs i d lt))
      ∙ sofar

  pub columns_done : (xs : List Node) (i : ℕ) (block all : List ℕ) → length xs ≤ i → columns k t (drop i xs) i block ≡ all → block ≡ all
  unfolding columns
  columns_done xs i block all end sofar = sym (ap (λ ys. columns k t ys i block) (drop_all i xs end)) ∙ sofar
