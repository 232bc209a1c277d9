-- Looking at one entry after another. Assumes nothing.
use Rattle.std.proofs.Common.{◌≡◌, ℕ, suc, ◌+◌, ◌-◌, ◌*◌, ◌<◌, ◌≤◌, Bool, true, List, [], ◌∷◌, ◌++◌, length, replicate, sym, ap, ◌∙◌, append_assoc, append-nil, mul-le-mul, arith}
use Rattle.std.proofs.lemmas.Bool.{and_parts, leb-true}
use Rattle.table.proofs.Soundness.{sound_parts}
use Rattle.table.specs.Tables.{Table, sound}
use Rattle.history.specs.Calls.{Fleet}
use Rattle.fleet.specs.declared.call.Known.{Known}
use Rattle.listing.specs.Rehearsals.{look_entry, looks_from, unknown}

-- a table has a switch and a node
module _ (t : Table) (good : sound t ≡ true) where
  pub some_switches : 0 < t.switches
  some_switches = leb-true 1 t.switches (and_parts _ _ (sound_parts t good).switches).0

  pub some_nodes : 0 < length t.nodes
  some_nodes = leb-true 1 (length t.nodes) (and_parts _ _ (sound_parts t good).node_count).0

  pub some_pairs : 0 < t.switches * length t.nodes
  some_pairs = mul-le-mul {n₁ = 1} {m₁ = 1} some_switches some_nodes

module _ (live : Bool) (code : ℕ) (t : Table) (f : Fleet) (found whole : List Known) (i count : ℕ) (sofar : found ++ looks_from live code t f i (replicate (count - i) unknown) ≡ whole) where
  -- one entry more
  pub looks_more : (x : Known) → i < count → x ≡ look_entry live code t f i unknown → (found ++ x ∷ []) ++ looks_from live code t f (i + 1) (replicate (count - (i + 1)) unknown) ≡ whole
  unfolding looks_from
  looks_more x lt is =
      let one : count - i ≡ suc (count - (i + 1)) = omega arith in
      let rest = looks_from live code t f (i + 1) (replicate (count - (i + 1)) unknown) in
      append_assoc found (x ∷ []) rest ∙ ap (λ y. found ++ y ∷ rest) is
      ∙ ap (λ n. found ++ looks_from live code t f i (replicate n unknown)) (sym one) ∙ sofar

  -- no entry is left
  pub looks_done : count ≤ i → found ≡ whole
  unfolding looks_from
  looks_done end =
      let no : count - i ≡ 0 = omega arith in
      sym (append-nil found) ∙ ap (λ n. found ++ looks_from live code t f i (replicate n unknown)) (sym no) ∙ sofar
