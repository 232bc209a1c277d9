-- The entries of what the switches know, one after another. Assumes nothing.
use Rattle.std.proofs.Common.{◌≡◌, ℕ, ◌+◌, ◌<◌, ◌≤◌, List, ◌∷◌, ◌++◌, length, get_or, drop, sym, ap, ◌∙◌, append_assoc, append-nil, add-one, drop-cons}
use Rattle.std.proofs.lemmas.List.{drop_all}
use Rattle.table.specs.Tables.{Table}
use Rattle.fleet.specs.declared.call.Known.{Known}
use Rattle.listing.specs.Knowledge.{entries_from, entry_of, entry_text}

module _ (t : Table) (xs : List Known) (i : ℕ) (before whole : List ℕ) (sofar : before ++ entries_from t i (drop i xs) ≡ whole) where
  -- one entry more
  pub entries_more : (d : Known) (after : List ℕ) → i < length xs → after ≡ before ++ entry_text (entry_of t i (get_or xs i d)) → after ++ entries_from t (i + 1) (drop (i + 1) xs) ≡ whole
  unfolding entries_from
  entries_more d after lt pushed =
      let next : drop i xs ≡ get_or xs i d ∷ drop (i + 1) xs = rw add-one (drop-cons xs i d lt) in
      let rest = entries_from t (i + 1) (drop (i + 1) xs) in
      ap (λ x. x ++ rest) pushed ∙ append_assoc before _ rest ∙ ap (λ l. before ++ entries_from t i l) (sym next) ∙ sofar

  -- no entry is left
  pub entries_done : length xs ≤ i → before ≡ whole
  unfolding entries_from
  entries_done end = sym (append-nil before) ∙ ap (λ l. before ++ entries_from t i l) (sym (drop_all i xs end)) ∙ sofar
