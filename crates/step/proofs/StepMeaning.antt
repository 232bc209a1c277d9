-- The own words that a step works out stand for values that obey the logic. Assumes nothing.
use Rattle.std.proofs.Common.{◌≡◌, ℕ, zero, suc, ◌+◌, ◌^◌, ◌<◌, Bool, true, false, cond, ◌&&◌, ◌||◌, eqb, List, [], ◌∷◌, ◌++◌, length, get_or, take, sym, refl, ap, ◌∙◌, add-zero, zero-add, arith}
use Rattle.std.proofs.ByRecursion.{All-push, All-take, All-drop}
use Rattle.std.proofs.lemmas.List.{length_push, length-take-le, get_or_push, get_or-take, take_all, take_at, take-take}
use Rattle.std.specs.List.{AllByRecursion}
use Rattle.table.specs.Limits.{register_count}
use Rattle.table.specs.Tables.{Table, sound, node_holds}
use Rattle.table.specs.declared.node.Node.{Node}
use Rattle.readings.specs.Kinds.{Kind, Lawful}
use Rattle.step.specs.Logic.{values_of, after}
use Rattle.step.specs.Nodes.{on_words, WordKind, later, word_in}
use Rattle.step.specs.Records.{records_length, registers_of}
use Rattle.step.specs.StepLaws.{Words, StepMeaning, known, record_words}
use Rattle.step.specs.Steps.{Fitting, new_words, own_word, own_words, sight}
use Rattle.step.specs.Truths.{truth}
use Rattle.step.proofs.Obeying.{Small, Seen, node_small, obeys}
use Rattle.step.proofs.Ready.{node_ready}
use Rattle.step.proofs.Told.{record_word, all_hold, node_hold}

-- The own words, each from the words before it

module _ (k : WordKind) (m s : ℕ) (block registers : List ℕ) where
  pub new_length : (xs : List Node) (words : List ℕ) → length (new_words k m s block registers xs words) ≡ length words + length xs
  unfolding new_words
  new_length [] words = sym (add-zero (length words))
  new_length (x ∷ xs) words =
      let w = own_word k m s block registers words x in
      let rest = new_length xs (words ++ w ∷ []) in
      let more = length_push words w in
      omega arith

  -- the words so far stay in front
  new_front : (xs : List Node) (words : List ℕ) → take (length words) (new_words k m s block registers xs words) ≡ words
  unfolding new_words
  new_front [] words = take_all (length words) words (omega arith)
  new_front (x ∷ xs) words =
      let w = own_word k m s block registers words x in
      let all = new_words k m s block registers xs (words ++ w ∷ []) in
      let more = length_push words w in
      sym (take-take (length words) (length (words ++ w ∷ [])) all (omega arith))
      ∙ ap (take (length words)) (new_front xs (words ++ w ∷ []))
      ∙ take_at words (w ∷ []) (length words) refl

  pub new_at : (xs : List Node) (words : List ℕ) (i : ℕ) (d : Node) → i < length xs → get_or (new_words k m s block registers xs words) (length words + i) 0 ≡ own_word k m s block registers (take (length words + i) (new_words k m s block registers xs words)) (get_or xs i d)
  unfolding new_words
  new_at [] words i d lt = absurd (omega arith)
  new_at (x ∷ xs) words zero d lt =
      let w = own_word k m s block registers words x in
      let all = new_words k m s block registers xs (words ++ w ∷ []) in
      let more = length_push words w in
      ap (λ z. get_or all z 0) (add-zero (length words))
      ∙ sym (get_or-take (length (words ++ w ∷ [])) all (length words) 0 (omega arith))
      ∙ ap (λ z. get_or z (length words) 0) (new_front xs (words ++ w ∷ []))
      ∙ get_or_push words w 0 (length words) refl
      ∙ sym (ap (λ z. own_word k m s block registers z x) (ap (λ z. take z all) (add-zero (length words)) ∙ new_front (x ∷ xs) words))
  new_at (x ∷ xs) words (suc i) d lt =
      let w = own_word k m s block registers words x in
      let all = new_words k m s block registers xs (words ++ w ∷ []) in
      let place : length words + suc i ≡ length (words ++ w ∷ []) + i = omega (arith, length_push words w) in
      ap (λ z. get_or all z 0) place
      ∙ new_at xs (words ++ w ∷ []) i d (omega arith)
      ∙ sym (ap (λ z. own_word k m s block registers (take z all) (get_or xs i d)) place)

module _ (k : WordKind) (t : Table) (s : ℕ) (block : List ℕ) where
  pub own_length : length (own_words k t s block) ≡ length t.nodes
  own_length = new_length k (length t.nodes) s block (registers_of t.switches (length t.nodes) block) t.nodes [] ∙ zero-add (length t.nodes)

  pub own_at : (i : ℕ) (d : Node) → i < length t.nodes → get_or (own_words k t s block) i 0 ≡ own_word k (length t.nodes) s block (registers_of t.switches (length t.nodes) block) (take i (own_words k t s block)) (get_or t.nodes i d)
  own_at i d lt =
      let ws = own_words k t s block in
      let regs = registers_of t.switches (length t.nodes) block in
      ap (λ z. get_or ws z 0) (sym (zero-add i))
      ∙ new_at k (length t.nodes) s block regs t.nodes [] i d lt
      ∙ ap (λ z. own_word k (length t.nodes) s block regs (take z ws) (get_or t.nodes i d)) (zero-add i)

module _ {R : Type 0} (k : Kind R) (held : R → Type 0) (law : Lawful k held) where
  -- they are words
  pub new_small : (m s : ℕ) (block registers : List ℕ) → Words block → Words registers → (xs : List Node) (words : List ℕ) → AllByRecursion (λ x. node_holds x ≡ true) xs → Words words → Words (new_words (on_words k) m s block registers xs words)
  unfolding new_words
  new_small m s block registers some regs [] words hold small = small
  new_small m s block registers some regs (x ∷ xs) words hold small =
      let v = sight m s block registers words in
      let fits : Small v = record { words = small; records = some; registers = regs } in
      new_small m s block registers some regs xs _ hold.1 (All-push (λ w. w < 2 ^ 32) words _ small (node_small k held law v fits (later v (length words)) x hold.0))

  module _ (t : Table) (is_sound : sound t ≡ true) (s : ℕ) (block : List ℕ) (some : Words block) where
    registers_small : Words (registers_of t.switches (length t.nodes) block)
    registers_small = All-take (λ w. w < 2 ^ 32) register_count _ (All-drop (λ w. w < 2 ^ 32) (records_length t.switches (length t.nodes)) block some)

    pub own_small : Words (own_words (on_words k) t s block)
    own_small = new_small (length t.nodes) s block (registers_of t.switches (length t.nodes) block) some registers_small t.nodes [] (all_hold t is_sound) tt

-- what the own word of node i is worked out from
own_seen : {R : Type 0} (k : Kind R) (n m s i : ℕ) (block registers ws : List ℕ) → i < m → length ws ≡ m → Seen k n i (sight m s block registers (take i ws)) (later (sight m s block registers (take i ws)) (length (take i ws))) ws (after (values_of k (record_words m block s))) (known k m block s (values_of k ws))
own_seen k n m s i block registers ws lt long =
    let count : length (take i ws) ≡ i = length-take-le i ws (omega arith) in
    let lower : (a : ℕ) → a < i → get_or ws a 0 ≡ get_or (take i ws) a 0 = λ a less. sym (get_or-take i ws a 0 less) in
    let was : truth (word_in m block s (length (take i ws))) ≡ truth (get_or (record_words m block s) i 0) =
    ap (λ z. truth (word_in m block s z)) count ∙ ap truth (sym (record_word m block s i lt)) in
    record {
      own = lower;
      truths = λ j b below less. truths_at (eqb j s) j b (lower b less) (record_word m block j b (omega arith));
      readings = λ j b below less. readings_at (eqb j s) j b (lower b less) (record_word m block j b (omega arith));
      one_back = λ a less. ap truth (sym (record_word m block s a (omega arith)));
      ever = λ a. ap (λ z. a || z) was;
      throughout = λ a. ap (λ z. a && z) was;
      from_then = λ a b. ap (λ z. b || (a && z)) was;
    }
  where
    truths_at : (own : Bool) (j b : ℕ) → get_or ws b 0 ≡ get_or (take i ws) b 0 → get_or (record_words m block j) b 0 ≡ word_in m block j b → (cond own (values_of k ws) (values_of k (record_words m block j))).truths b ≡ truth (cond own (get_or (take i ws) b 0) (word_in m block j b))
    truths_at true j b p q = ap truth p
    truths_at false j b p q = ap truth q

    readings_at : (own : Bool) (j b : ℕ) → get_or ws b 0 ≡ get_or (take i ws) b 0 → get_or (record_words m block j) b 0 ≡ word_in m block j b → (cond own (values_of k ws) (values_of k (record_words m block j))).readings b ≡ k.reading (cond own (get_or (take i ws) b 0) (word_in m block j b))
    readings_at true j b p q = ap k.reading p
    readings_at false j b p q = ap k.reading q

pub step_meaning : {R : Type 0} (k : Kind R) (held : R → Type 0) → Lawful k held → (t : Table) → sound t ≡ true → (s : ℕ) (block : List ℕ) → Fitting t s block → Words block → StepMeaning k t s block
step_meaning k held law t is_sound s block fitting some i d lt =
    let m = length t.nodes in
    let ws = own_words (on_words k) t s block in
    let regs = registers_of t.switches m block in
    let v = sight m s block regs (take i ws) in
    let small : Small v = record {
      words = All-take (λ w. w < 2 ^ 32) i ws (own_small k held law t is_sound s block some);
      records = some;
      registers = registers_small k held law t is_sound s block some;
    } in
    obeys k held law v small t.switches i (later v (length (take i ws))) ws (after (values_of k (record_words m block s))) (known k m block s (values_of k ws))
    (own_seen k t.switches m s i block regs ws lt (own_length (on_words k) t s block))
    (get_or t.nodes i d)
    (node_ready t is_sound t.nodes refl d i lt)
    (node_hold t is_sound i d lt)
    (own_at (on_words k) t s block i d lt)
