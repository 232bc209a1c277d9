-- All words of a run's memory and copies are below 2³². Assumes nothing.
use Rattle.std.proofs.Common.{◌≡◌, ℕ, zero, suc, ◌+◌, ◌*◌, ◌^◌, ◌<◌, true, not, ◌&&◌, eqb, ◌≢◌, List, [], ◌∷◌, ◌++◌, length, get_or, take, drop, is_ok, sym, refl, subst, inl, inr, arith}
use lib.Seq.{paste}
use Rattle.std.proofs.ByRecursion.{All-append, All-drop, All-push, All-set, All-take}
use Rattle.std.proofs.lemmas.Bool.{cases_Bool, cond_both, eq-eqb}
use Rattle.std.specs.List.{AllByRecursion}
use Rattle.table.proofs.Soundness.{sound_limits, sound_parts}
use Rattle.table.specs.Tables.{Table, sound}
use Rattle.step.proofs.Obeying.{word_small}
use Rattle.step.proofs.OpeningMeaning.{opened_small}
use Rattle.step.proofs.StepMeaning.{own_small}
use Rattle.readings.specs.Kinds.{Kind, Lawful}
use Rattle.step.specs.Nodes.{on_words}
use Rattle.step.specs.Opening.{opened}
use Rattle.step.specs.Records.{hand_records, newer, record_length, record_of, record_start, records_length}
use Rattle.step.specs.StepLaws.{Words}
use Rattle.step.specs.Steps.{Act, Fitting, set_register, send, receive, acted_block, advanced, max_count, own_count, own_words, taken}
use Rattle.carriers.specs.Meanings.{Held}
use Rattle.history.specs.Calls.{Call, set_call, send_call, receive_call, retire_call, Fleet, answer, block_at, block_size, called, copy_of, first_blocks, ran, stepped}
use Rattle.history.specs.Orders.{New}
use Rattle.history.specs.Runs.{WordCall, call_at, fleet_at, no_call}
use Rattle.history.proofs.BlockSteps.{Makes, acted_count, makes_send}
use Rattle.history.proofs.Calling.{Does, sets, sends, receives, Doing, called_ok, called_refused, done, ok_none}
use Rattle.history.proofs.Carrier.{all_but, all_under}
use Rattle.history.proofs.Moments.{Kept, block, block_is, does_makes, kept_at, kept_called, kept_new}

all_paste : (d : List ℕ) (at : ℕ) (s : List ℕ) (n : ℕ) → Words d → Words s → Words (paste d at s n)
all_paste d at s n one two =
    All-append (λ w. w < 2 ^ 32) (take at d ++ take n s) (drop (at + n) d)
    (All-append (λ w. w < 2 ^ 32) (take at d) (take n s) (All-take (λ w. w < 2 ^ 32) at d one) (All-take (λ w. w < 2 ^ 32) n s two))
    (All-drop (λ w. w < 2 ^ 32) (at + n) d one)

part_words : (at n : ℕ) (d : List ℕ) → Words d → Words (take n (drop at d))
part_words at n d words = All-take (λ w. w < 2 ^ 32) n (drop at d) (All-drop (λ w. w < 2 ^ 32) at d words)

taken_words : (m s : ℕ) (copy block : List ℕ) (j : ℕ) → Words copy → Words block → Words (taken m s copy block j)
unfolding taken
taken_words m s copy block zero one two = two
taken_words m s copy block (suc j) one two =
    let before = taken_words m s copy block j one two in
    cond_both (not (eqb j s) && newer (record_of m copy j) (record_of m (taken m s copy block j) j)) _ _ Words
    (λ _. all_paste (taken m s copy block j) (record_start m j) (record_of m copy j) (record_length m) before (part_words (record_start m j) (record_length m) copy one))
    (λ _. before)

word_at : (calls : List Call) (i : ℕ) → AllByRecursion WordCall calls → WordCall (get_or calls i no_call)
word_at [] i words = tt
word_at (c ∷ cs) zero words = words.0
word_at (c ∷ cs) (suc i) words = word_at cs i words.1

-- what an act brings in
abbrev pub WordAct : Act → Type 0
WordAct (set_register g w) = w < 2 ^ 32
WordAct send = Unit {0}
WordAct (receive hand) = Words hand

acted_words : (t : Table) (s : ℕ) (a : Act) (block : List ℕ) → WordAct a → Words block → Words (acted_block t s a block)
acted_words t s (set_register g w) block word words = All-set (λ z. z < 2 ^ 32) block _ w word words
acted_words t s send block word words = words
acted_words t s (receive hand) block word words = taken_words (length t.nodes) s (hand_records hand) block t.switches (All-drop (λ w. w < 2 ^ 32) 1 hand word) words

module _ {R : Type 0} (k : Kind R) (held : R → Type 0) (law : Lawful k held) (t : Table) (is_sound : sound t ≡ true) where
  step_words : (s : ℕ) (block : List ℕ) → Fitting t s block → (a : Act) → Makes t a → WordAct a → own_count (length t.nodes) s block ≢ max_count → Words block → Words (advanced (on_words k) t s (acted_block t s a block))
  step_words s block fits a makes word room words =
      let acted = acted_block t s a block in
      let small = acted_words t s a block word words in
      let count = own_count (length t.nodes) s acted in
      let same : count ≡ own_count (length t.nodes) s block = acted_count t s block fits a makes in
      let under : own_count (length t.nodes) s block < 2 ^ 32 = word_small (record_of (length t.nodes) block s) 0 (part_words (record_start (length t.nodes) s) (record_length (length t.nodes)) block words) in
      let less : count + 1 < 2 ^ 32 = omega (arith, same, under, room) in
      all_paste acted (record_start (length t.nodes) s) ((count + 1) ∷ own_words (on_words k) t s acted) (record_length (length t.nodes)) small
      (less, own_small k held law t is_sound s acted small)

  pub record Worded (g : Fleet) : Type 0 where
    pub memory : Words g.memory
    pub copies : AllByRecursion (λ (h : Held). Words h.1) g.carrier.held

  module _ (g : Fleet) (kept : Kept (on_words k) t g) (worded : Worded g) where
    does_word : (c : Call) → WordCall c → (s : ℕ) (a : Act) → Does (on_words k) t g c s a → WordAct a
    does_word c word s a (sets r w is acts below) = subst WordAct (sym acts) (subst WordCall is word)
    does_word c word s a (sends is acts space) = subst WordAct (sym acts) tt
    does_word c word s a (receives x copy is acts found) = subst WordAct (sym acts) (all_under Words x g.carrier.held worded.copies copy found)

    stepped_words : (c : Call) → WordCall c → (s : ℕ) → (d : Doing (on_words k) t g c s) → Words (stepped (on_words k) t g s d.0)
    stepped_words c word s (a, x, d) =
        step_words s (block_at (on_words k) t g.memory s) (block_is (on_words k) t g kept s d.below) a (does_makes (on_words k) t g kept c s a d.does) (does_word c word s a d.does) d.room
        (part_words (s * block_size (on_words k) t) (block_size (on_words k) t) g.memory worded.memory)

    memory_words : (c : Call) → WordCall c → (s : ℕ) → Doing (on_words k) t g c s → Words (called (on_words k) t g c).memory
    memory_words c word s d =
        subst Words (sym d.2.memory) (all_paste g.memory (s * block_size (on_words k) t) (stepped (on_words k) t g s d.0) (block_size (on_words k) t) worded.memory (stepped_words c word s d))

    worded_ok : (c : Call) → WordCall c → is_ok (answer (on_words k) t g c) ≡ true → Worded (called (on_words k) t g c)
    worded_ok (set_call s r w) word ok = record {
      memory = memory_words (set_call s r w) word s (done (on_words k) t g (set_call s r w) s ok (eq-eqb s s refl));
      copies = subst (λ z. AllByRecursion (λ (h : Held). Words h.1) z.carrier.held) (sym (called_ok (on_words k) t g (set_call s r w) (ok_none _ _ ok))) worded.copies;
    }
    worded_ok (send_call s) word ok =
        let d = done (on_words k) t g (send_call s) s ok (eq-eqb s s refl) in
        let block = block_at (on_words k) t g.memory s in
        let new = step_words s block (block_is (on_words k) t g kept s d.2.below) send (makes_send t) tt d.2.room (part_words (s * block_size (on_words k) t) (block_size (on_words k) t) g.memory worded.memory) in
        let sender : s < 2 ^ 32 = omega (arith, d.2.below, few) in
        record {
          memory = memory_words (send_call s) word s d;
          copies = subst (λ z. AllByRecursion (λ (h : Held). Words h.1) z.carrier.held) (sym (called_ok (on_words k) t g (send_call s) (ok_none _ _ ok)))
              (All-push (λ (h : Held). Words h.1) g.carrier.held (g.carrier.next, copy_of (on_words k) t s (stepped (on_words k) t g s send)) worded.copies
              (sender, All-take (λ w. w < 2 ^ 32) (records_length t.switches (length t.nodes)) (stepped (on_words k) t g s send) new));
        }
      where
        few : t.switches < 2 ^ 32
        few = omega (arith, (sound_limits t (sound_parts t is_sound)).few_switches)
    worded_ok (receive_call s x) word ok = record {
      memory = memory_words (receive_call s x) word s (done (on_words k) t g (receive_call s x) s ok (eq-eqb s s refl));
      copies = subst (λ z. AllByRecursion (λ (h : Held). Words h.1) z.carrier.held) (sym (called_ok (on_words k) t g (receive_call s x) (ok_none _ _ ok))) worded.copies;
    }
    worded_ok (retire_call x) word ok =
        let is = called_ok (on_words k) t g (retire_call x) (ok_none _ _ ok) in
        record {
          memory = subst (λ z. Words z.memory) (sym is) worded.memory;
          copies = subst (λ z. AllByRecursion (λ (h : Held). Words h.1) z.carrier.held) (sym is) (all_but (λ (h : Held). Words h.1) x g.carrier.held worded.copies);
        }

    worded_called : (c : Call) → WordCall c → Worded (called (on_words k) t g c)
    worded_called c word = elim (cases_Bool (is_ok (answer (on_words k) t g c))) [
      | inl ok ↦ worded_ok c word ok
      | inr bad ↦ subst Worded (sym (called_refused (on_words k) t g c bad)) worded
    ]

  worded_ran : (g : Fleet) → Kept (on_words k) t g → Worded g → (cs : List Call) → AllByRecursion WordCall cs → Worded (ran (on_words k) t g cs)
  unfolding ran
  worded_ran g kept worded [] words = worded
  worded_ran g kept worded (c ∷ cs) words =
      worded_ran (called (on_words k) t g c) (kept_called (on_words k) t g kept c) (worded_called g kept worded c words.0) cs words.1

  first_words : (s : ℕ) → Words (first_blocks (on_words k) t s)
  unfolding first_blocks
  first_words zero = tt
  first_words (suc s) = All-append (λ w. w < 2 ^ 32) (first_blocks (on_words k) t s) (opened (on_words k) t s) (first_words s) (opened_small k held law t is_sound s)

  worded_new : (f : Fleet) → New (on_words k) t f → Worded f
  worded_new f new = record {
    memory = subst Words (sym new.memory) (first_words t.switches);
    copies = subst (AllByRecursion (λ (h : Held). Words h.1)) (sym new.held) tt;
  }

  module _ (f : Fleet) (new : New (on_words k) t f) (calls : List Call) (words : AllByRecursion WordCall calls) where
    worded_at : (i : ℕ) → Worded (fleet_at (on_words k) t f calls i)
    unfolding fleet_at
    worded_at i = worded_ran f (kept_new (on_words k) t is_sound f new) (worded_new f new) (take i calls) (All-take WordCall i calls words)

    -- the words that the own words of an event at s are worked out from
    pub acting_words : (s i : ℕ) (a : Act) → Does (on_words k) t (fleet_at (on_words k) t f calls i) (call_at (on_words k) t f calls i) s a → Words (acted_block t s a (block (on_words k) t f calls i s))
    unfolding block call_at
    acting_words s i a does =
        acted_words t s a (block_at (on_words k) t (fleet_at (on_words k) t f calls i).memory s)
        (does_word (fleet_at (on_words k) t f calls i) (kept_at (on_words k) t f calls is_sound new i) (worded_at i) (get_or calls i no_call) (word_at calls i words) s a does)
        (part_words (s * block_size (on_words k) t) (block_size (on_words k) t) (fleet_at (on_words k) t f calls i).memory (worded_at i).memory)
