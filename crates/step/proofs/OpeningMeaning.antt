-- The block that a switch starts with: its shape, its counts and registers, and what its words stand for. Assumes nothing.
use Rattle.std.proofs.Common.{◌≡◌, ℕ, zero, suc, ◌+◌, ◌^◌, ◌<◌, ◌≤◌, Bool, true, false, cond, eqb, List, ◌++◌, length, get_or, take, drop, replicate, sym, refl, ap, ◌∙◌, subst, zero-add, arith}
use lib.ListN.{length-replicate}
use lib.Seq.{paste}
use Rattle.std.proofs.lemmas.List.Edits.{length-paste}
use Rattle.std.proofs.ByRecursion.{All-append, All-take, All-drop}
use Rattle.std.proofs.lemmas.List.{append_assoc, length-append, length-take-le, get_or_append_left, get_or-take, get_or-drop, get_or-replicate, drop_at, take_at, take_all}
use Rattle.std.proofs.lemmas.Bool.{eqb-true}
use Rattle.table.specs.Limits.{register_count}
use Rattle.table.specs.Tables.{Table, sound}
use Rattle.table.specs.declared.node.Node.{Node}
use Rattle.readings.specs.Kinds.{Kind, Lawful}
use Rattle.step.specs.Logic.{values_of, none}
use Rattle.step.specs.Nodes.{on_words, WordKind, first, there, word_in}
use Rattle.step.specs.Opening.{columns, opened, first_sight, start_registers}
use Rattle.step.specs.Records.{block_length, record_start, records_length, record_of, registers_of, count_of}
use Rattle.step.specs.StepLaws.{Words, OpeningMeaning, record_words}
use Rattle.step.specs.Truths.{truth}
use Rattle.step.proofs.FirstWords.{Kept, Came, columns_kept, columns_small, columns_at}
use Rattle.step.proofs.Obeying.{Small, Seen, obeys}
use Rattle.step.proofs.Ready.{node_ready}
use Rattle.step.proofs.Rows.{row_inside, count_there}
use Rattle.step.proofs.Starts.{starts_length}
use Rattle.step.proofs.Told.{record_word, all_hold, node_hold, start_words}

-- before the place that is written, nothing changes
paste_below : (xs r : List ℕ) (at n i : ℕ) → i < at → at ≤ length xs → get_or (paste xs at r n) i 0 ≡ get_or xs i 0
paste_below xs r at n i below inside =
    let front : length (take at xs) ≡ at = length-take-le at xs inside in
    get_or_append_left (take at xs ++ take n r) (drop (at + n) xs) 0 i (omega (arith, length-append (take at xs) (take n r)))
    ∙ get_or_append_left (take at xs) (take n r) 0 i (omega arith)
    ∙ get_or-take at xs i 0 below

paste_part : (xs r : List ℕ) (at n : ℕ) → at ≤ length xs → length r ≡ n → take n (drop at (paste xs at r n)) ≡ r
paste_part xs r at n inside long =
    ap (λ z. take n (drop at z)) (append_assoc (take at xs) (take n r) (drop (at + n) xs))
    ∙ ap (take n) (drop_at (take at xs) (take n r ++ drop (at + n) xs) at (length-take-le at xs inside))
    ∙ take_at (take n r) (drop (at + n) xs) n (length-take-le n r (omega arith))
    ∙ take_all n r (omega arith)

zeros_small : (n : ℕ) → Words (replicate n 0)
zeros_small zero = tt
zeros_small (suc n) = (omega arith, zeros_small n)

module _ (k : WordKind) (t : Table) where
  abbrev empty : List ℕ
  empty = replicate (block_length t.switches (length t.nodes)) 0

  -- the words are worked out, and the registers not yet put after them
  abbrev worked : List ℕ
  worked = columns k t t.nodes 0 empty

  empty_length : length empty ≡ block_length t.switches (length t.nodes)
  empty_length = length-replicate (block_length t.switches (length t.nodes)) 0

  worked_kept : Kept (length t.nodes) 0 empty worked
  worked_kept = columns_kept k t t.nodes 0 empty (omega arith)

  worked_length : length worked ≡ block_length t.switches (length t.nodes)
  worked_length = worked_kept.size ∙ empty_length

  -- the registers leave the records
  opened_below : (s i : ℕ) → i < records_length t.switches (length t.nodes) → get_or (opened k t s) i 0 ≡ get_or worked i 0
  opened_below s i below = paste_below worked (start_registers t s) (records_length t.switches (length t.nodes)) register_count i below (omega (arith, worked_length))

  pub opened_count : (s j : ℕ) → j < t.switches → count_of (record_of (length t.nodes) (opened k t s) j) ≡ 0
  opened_count s j below =
      let m = length t.nodes in
      let inside : record_start m j < records_length t.switches m = omega (arith, row_inside j (m + 1) t.switches below) in
      count_there m (opened k t s) j
      ∙ opened_below s (record_start m j) inside
      ∙ worked_kept.counts j
      ∙ get_or-replicate (block_length t.switches m) (record_start m j) 0 0 (omega arith)

  opened_word : (s j a : ℕ) → j < t.switches → a < length t.nodes → get_or (record_words (length t.nodes) (opened k t s) j) a 0 ≡ word_in (length t.nodes) worked j a
  opened_word s j a below lt =
      let m = length t.nodes in
      record_word m (opened k t s) j a lt ∙ opened_below s (record_start m j + 1 + a) (omega (arith, row_inside j (m + 1) t.switches below))

  module _ (is_sound : sound t ≡ true) (s : ℕ) (below : s < t.switches) where
    pub opened_length : length (opened k t s) ≡ block_length t.switches (length t.nodes)
    opened_length =
        length-paste worked (records_length t.switches (length t.nodes)) (start_registers t s) register_count (omega (arith, worked_length)) (omega (arith, starts_length t is_sound s below))
        ∙ worked_length

    pub opened_registers : registers_of t.switches (length t.nodes) (opened k t s) ≡ start_registers t s
    opened_registers =
        paste_part worked (start_registers t s) (records_length t.switches (length t.nodes)) register_count (omega (arith, worked_length)) (starts_length t is_sound s below)

module _ {R : Type 0} (k : Kind R) (held : R → Type 0) (law : Lawful k held) (t : Table) (is_sound : sound t ≡ true) (s : ℕ) where
  worked_small : Words (worked (on_words k) t)
  worked_small = columns_small k held law t is_sound t.nodes (all_hold t is_sound) 0 (empty (on_words k) t) (zeros_small _)

  pub opened_small : Words (opened (on_words k) t s)
  opened_small =
      let at = records_length t.switches (length t.nodes) in
      All-append (λ w. w < 2 ^ 32) (take at (worked (on_words k) t) ++ take register_count (start_registers t s)) _
      (All-append (λ w. w < 2 ^ 32) _ _ (All-take (λ w. w < 2 ^ 32) at _ worked_small) (All-take (λ w. w < 2 ^ 32) register_count _ (start_words t is_sound s)))
      (All-drop (λ w. w < 2 ^ 32) (at + register_count) _ worked_small)

  word_came : (j : ℕ) → j < t.switches → (i : ℕ) (d : Node) → i < length t.nodes → Came (on_words k) t (worked (on_words k) t) j i (get_or t.nodes i d)
  word_came j below i d lt =
      let zeros = empty_length (on_words k) t in
      subst (λ z. Came (on_words k) t (worked (on_words k) t) j z (get_or t.nodes i d)) (zero-add i)
      (columns_at k held law t is_sound t.nodes (all_hold t is_sound) 0 (empty (on_words k) t) (zeros_small _) (omega arith) (omega arith) j below i d lt)

-- what the first word of node i at switch j is worked out from; end are the records at last
first_seen : {R : Type 0} (k : Kind R) (n m j i : ℕ) (then end registers : List ℕ) (tells : ℕ → List ℕ) → i < m → j < n → Kept m i then end
    → ((j' a : ℕ) → j' < n → a < m → get_or (tells j') a 0 ≡ word_in m end j' a)
    → Seen k n i (first_sight m registers then i j) (first (first_sight m registers then i j)) (tells j) none (λ j'. values_of k (tells j'))
first_seen k n m j i then end registers tells lt below kept say =
    let lower : (a : ℕ) → a < i → get_or (tells j) a 0 ≡ get_or (take i (drop (record_start m j + 1) then)) a 0 =
    λ a less. say j a below (omega arith) ∙ kept.words j a less ∙ sym (get_or-take i (drop (record_start m j + 1) then) a 0 less ∙ get_or-drop (record_start m j + 1) then a 0) in
    let others : (j' b : ℕ) → j' < n → b < i → get_or (tells j') b 0 ≡ there (first_sight m registers then i j) j' b =
    λ j' b known less. either (eqb j' j) j' b (λ e. ap (λ z. get_or (tells z) b 0) (eqb-true j' j e) ∙ lower b less) (say j' b known (omega arith) ∙ kept.words j' b less) in
    record {
      own = lower;
      truths = λ j' b known less. ap truth (others j' b known less);
      readings = λ j' b known less. ap k.reading (others j' b known less);
      one_back = λ a less. refl;
      ever = λ a. refl;
      throughout = λ a. refl;
      from_then = λ a b. refl;
    }
  where
    either : (own : Bool) (j' b : ℕ) → (own ≡ true → get_or (tells j') b 0 ≡ get_or (take i (drop (record_start m j + 1) then)) b 0) → get_or (tells j') b 0 ≡ word_in m then j' b → get_or (tells j') b 0 ≡ cond own (get_or (take i (drop (record_start m j + 1) then)) b 0) (word_in m then j' b)
    either true j' b p q = p refl
    either false j' b p q = q

pub opening_meaning : {R : Type 0} (k : Kind R) (held : R → Type 0) → Lawful k held → (t : Table) → sound t ≡ true → (s : ℕ) → s < t.switches → OpeningMeaning k t s
opening_meaning k held law t is_sound s there j below i d lt =
    let m = length t.nodes in
    let end = worked (on_words k) t in
    let tells : ℕ → List ℕ = λ j'. record_words m (opened (on_words k) t s) j' in
    let came = word_came k held law t is_sound s j below i d lt in
    let v = first_sight m (start_registers t j) came.then i j in
    let small : Small v = record {
      words = All-take (λ w. w < 2 ^ 32) i _ (All-drop (λ w. w < 2 ^ 32) (record_start m j + 1) came.then came.small);
      records = came.small;
      registers = start_words t is_sound j;
    } in
    obeys k held law v small t.switches i (first v) (tells j) none (λ j'. values_of k (tells j'))
    (first_seen k t.switches m j i came.then end (start_registers t j) tells lt below came.kept (λ j' a known less. opened_word (on_words k) t s j' a known less))
    (get_or t.nodes i d)
    (node_ready t is_sound t.nodes refl d i lt)
    (node_hold t is_sound i d lt)
    (opened_word (on_words k) t s j i below lt ∙ came.is)
