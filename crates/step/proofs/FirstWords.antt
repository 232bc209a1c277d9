-- The first words, worked out node after node: what a later write leaves. Assumes nothing.
use Rattle.std.proofs.Common.{◌≡◌, ℕ, zero, suc, ◌+◌, ◌^◌, ◌<◌, ◌≤◌, true, ◌≢◌, List, [], ◌∷◌, length, get_or, set, sym, refl, ap, ◌∙◌, subst, inl, inr, add-zero, arith, length-set}
use Rattle.std.proofs.ByRecursion.{All-set, All-take, All-drop}
use Rattle.std.proofs.lemmas.List.{get_or-set_same, get_or-set_other}
use Rattle.std.proofs.lemmas.Bool.{cases_eq, cases_order}
use Rattle.std.specs.List.{AllByRecursion}
use Rattle.table.specs.Tables.{Table, sound, node_holds}
use Rattle.table.specs.declared.node.Node.{Node}
use Rattle.readings.specs.Kinds.{Kind, Lawful}
use Rattle.step.specs.Nodes.{on_words, WordKind, first, word_in}
use Rattle.step.specs.Opening.{column, columns, first_sight, first_word, start_registers}
use Rattle.step.specs.Records.{record_start, records_length}
use Rattle.step.specs.StepLaws.{Words}
use Rattle.step.proofs.Obeying.{Small, node_small}
use Rattle.step.proofs.Rows.{row_inside}
use Rattle.step.proofs.Told.{start_words}

-- two places in records are apart where they are at different offsets
apart : (m j o j' o' : ℕ) → o ≤ m → o' ≤ m → o ≢ o' → record_start m j + o ≢ record_start m j' + o'
apart m j o j' o' in_one in-other differ e =
    elim (cases_order j j') [
      | inl same ↦ differ (let p = ap (record_start m) same in omega arith)
      | inr (inl less) ↦ omega (arith, row_inside j (m + 1) j' less)
      | inr (inr more) ↦ omega (arith, row_inside j' (m + 1) j more)
    ]

-- the counts and the words of the nodes below i are the same
pub record Kept (m i : ℕ) (before after : List ℕ) : Type 0 where
  pub size : length after ≡ length before
  pub counts : (j : ℕ) → get_or after (record_start m j) 0 ≡ get_or before (record_start m j) 0
  pub words : (j a : ℕ) → a < i → word_in m after j a ≡ word_in m before j a

kept_none : (m i : ℕ) (b : List ℕ) → Kept m i b b
kept_none m i b = record { size = refl; counts = λ j. refl; words = λ j a lt. refl }

kept_both : (m i : ℕ) (a b c : List ℕ) → Kept m i a b → Kept m i b c → Kept m i a c
kept_both m i a b c p q = record {
  size = q.size ∙ p.size;
  counts = λ j. q.counts j ∙ p.counts j;
  words = λ j x lt. q.words j x lt ∙ p.words j x lt;
}

kept_back : (m i : ℕ) (a b c : List ℕ) → Kept m i a b → Kept m i a c → Kept m i b c
kept_back m i a b c p q = record {
  size = q.size ∙ sym p.size;
  counts = λ j. q.counts j ∙ sym (p.counts j);
  words = λ j x lt. q.words j x lt ∙ sym (p.words j x lt);
}

kept_fewer : (m i : ℕ) (a b : List ℕ) → Kept m (suc i) a b → Kept m i a b
kept_fewer m i a b p = record { size = p.size; counts = p.counts; words = λ j x lt. p.words j x (omega arith) }

kept_set : (m i : ℕ) (b : List ℕ) (j w : ℕ) → i < m → Kept m i b (set b (record_start m j + 1 + i) w)
kept_set m i b j w lt =
    record {
      size = length-set b (record_start m j + 1 + i) w;
      counts = λ j'. get_or-set_other b (record_start m j + 1 + i) (record_start m j') w 0
          (λ e. apart m j' 0 j (1 + i) (omega arith) (omega arith) (omega arith) (omega arith));
      words = λ j' a less. get_or-set_other b (record_start m j + 1 + i) (record_start m j' + 1 + a) w 0
          (λ e. apart m j' (1 + a) j (1 + i) (omega arith) (omega arith) (omega arith) (omega arith));
    }

module _ (k : WordKind) (t : Table) where
  column_kept : (x : Node) (i : ℕ) (block : List ℕ) → i < length t.nodes → (j : ℕ) → Kept (length t.nodes) i block (column k t x i block j)
  unfolding column
  column_kept x i block lt zero = kept_none (length t.nodes) i block
  column_kept x i block lt (suc j) =
      kept_both (length t.nodes) i block (column k t x i block j) _ (column_kept x i block lt j)
      (kept_set (length t.nodes) i (column k t x i block j) j _ lt)

  pub columns_kept : (xs : List Node) (i : ℕ) (block : List ℕ) → i + length xs ≤ length t.nodes → Kept (length t.nodes) i block (columns k t xs i block)
  unfolding columns
  columns_kept [] i block room = kept_none (length t.nodes) i block
  columns_kept (x ∷ xs) i block room =
      let m = length t.nodes in
      let next = column k t x i block t.switches in
      kept_both m i block next _ (column_kept x i block (omega arith) t.switches) (kept_fewer m i next _ (columns_kept xs (suc i) next (omega arith)))

  -- node i's word at switch j is worked out from the block as it was then
  column_at : (x : Node) (i : ℕ) (block : List ℕ) → i < length t.nodes → records_length t.switches (length t.nodes) ≤ length block → (j upto : ℕ) → j < upto → upto ≤ t.switches
      → word_in (length t.nodes) (column k t x i block upto) j i ≡ first_word k (length t.nodes) (start_registers t j) (column k t x i block j) i j x
  unfolding column
  column_at x i block lt room j zero below le = absurd (omega arith)
  column_at x i block lt room j (suc upto) below le =
      let m = length t.nodes in
      let sofar = column k t x i block upto in
      let w = first_word k m (start_registers t upto) sofar i upto x in
      let size = (column_kept x i block lt upto).size in
      elim (cases_eq j upto) [
        | inl same ↦
            ap (λ z. word_in m (column k t x i block (suc upto)) z i) same
            ∙ get_or-set_same sofar (record_start m upto + 1 + i) w 0 (omega (arith, row_inside upto (m + 1) t.switches le))
            ∙ sym (ap (λ z. first_word k m (start_registers t z) (column k t x i block z) i z x) same)
        | inr other ↦
            let less : j < upto = omega arith in
            get_or-set_other sofar (record_start m upto + 1 + i) (record_start m j + 1 + i) w 0 (λ e. omega (arith, row_inside j (m + 1) upto less))
            ∙ column_at x i block lt room j upto less (omega arith)
      ]

-- how word a at switch j of a block came about
pub record Came (k : WordKind) (t : Table) (block : List ℕ) (j a : ℕ) (x : Node) : Type 0 where
  pub then : List ℕ
  pub small : Words then
  pub kept : Kept (length t.nodes) a then block
  pub is : word_in (length t.nodes) block j a ≡ first_word k (length t.nodes) (start_registers t j) then a j x

module _ {R : Type 0} (k : Kind R) (held : R → Type 0) (law : Lawful k held) (t : Table) (is_sound : sound t ≡ true) where
  column_small : (x : Node) → node_holds x ≡ true → (i : ℕ) (block : List ℕ) → Words block → (j : ℕ) → Words (column (on_words k) t x i block j)
  unfolding column
  column_small x holds i block some zero = some
  column_small x holds i block some (suc j) =
      let m = length t.nodes in
      let sofar = column (on_words k) t x i block j in
      let small = column_small x holds i block some j in
      let v = first_sight m (start_registers t j) sofar i j in
      let fits : Small v = record {
        words = All-take (λ w. w < 2 ^ 32) i _ (All-drop (λ w. w < 2 ^ 32) (record_start m j + 1) sofar small);
        records = small;
        registers = start_words t is_sound j;
      } in
      All-set (λ w. w < 2 ^ 32) sofar (record_start m j + 1 + i) _ (node_small k held law v fits (first v) x holds) small

  pub columns_small : (xs : List Node) → AllByRecursion (λ x. node_holds x ≡ true) xs → (i : ℕ) (block : List ℕ) → Words block → Words (columns (on_words k) t xs i block)
  unfolding columns
  columns_small [] hold i block some = some
  columns_small (x ∷ xs) hold i block some = columns_small xs hold.1 (suc i) _ (column_small x hold.0 i block some t.switches)

  pub columns_at : (xs : List Node) → AllByRecursion (λ x. node_holds x ≡ true) xs → (i : ℕ) (block : List ℕ) → Words block → i + length xs ≤ length t.nodes → records_length t.switches (length t.nodes) ≤ length block
      → (j : ℕ) → j < t.switches → (a : ℕ) (d : Node) → a < length xs → Came (on_words k) t (columns (on_words k) t xs i block) j (i + a) (get_or xs a d)
  unfolding columns
  columns_at [] hold i block some fits room j below a d lt = absurd (omega arith)
  columns_at (x ∷ xs) hold i block some fits room j below zero d lt =
      let m = length t.nodes in
      let sofar = column (on_words k) t x i block j in
      let next = column (on_words k) t x i block t.switches in
      let end = columns (on_words k) t xs (suc i) next in
      let inside : i < m = omega arith in
      let later = columns_kept (on_words k) t xs (suc i) next (omega arith) in
      let came : Came (on_words k) t end j i x = record {
        then = sofar;
        small = column_small x hold.0 i block some j;
        kept = kept_both m i sofar next end
            (kept_back m i block sofar next (column_kept (on_words k) t x i block inside j) (column_kept (on_words k) t x i block inside t.switches))
            (kept_fewer m i next end later);
        is = later.words j i (omega arith) ∙ column_at (on_words k) t x i block inside room j t.switches below (omega arith);
      } in
      subst (λ z. Came (on_words k) t end j z x) (sym (add-zero i)) came
  columns_at (x ∷ xs) hold i block some fits room j below (suc a) d lt =
      let next = column (on_words k) t x i block t.switches in
      let size = (column_kept (on_words k) t x i block (omega arith) t.switches).size in
      let place : suc i + a ≡ i + suc a = omega arith in
      subst (λ z. Came (on_words k) t (columns (on_words k) t xs (suc i) next) j z (get_or xs a d)) place
      (columns_at xs hold.1 (suc i) next (column_small x hold.0 i block some t.switches) (omega arith) (omega arith) j below a d (omega arith))
