-- What opening leaves where everything fits. Assumes nothing.
use Rattle.std.proofs.Common.{◌≡◌, ℕ, ◌+◌, ◌*◌, ◌<◌, Bool, true, false, ◌&&◌, eqb, leb, List, [], ◌∷◌, length, sym, refl, ap, ◌∙◌, inl, inr, arith}
use Rattle.std.proofs.lemmas.Bool.{and_parts, cases_Bool, cases_eq, cond-false, cond-true, eqb-true, leb-true}
use Rattle.table.specs.Tables.{Table, sound}
use Rattle.step.specs.Nodes.{WordKind}
use Rattle.step.specs.Opening.{opened}
use Rattle.step.specs.Records.{block_length, hand_length}
use Rattle.step.proofs.OpeningMeaning.{opened_length}
use Rattle.carriers.specs.Figures.{figures_of}
use Rattle.history.specs.Calls.{Fleet, first_memory, put_block}
use Rattle.history.specs.Orders.{New}
use Rattle.history.proofs.Memory.{first_block, first_long, put_others, put_own, same_memory}
use Rattle.fleet.specs.Blocks.{block_in}
use Rattle.fleet.specs.Shapes.{Opened, carries, fits, shaped, sized, state, unused}

none_held : {X : Type 0} (xs : List X) → length xs ≡ 0 → xs ≡ []
none_held [] e = refl
none_held (x ∷ xs) e = absurd (omega (arith, e))

module _ (code : ℕ) (k : WordKind) (t : Table) (f : Fleet) where
  pub fits_new : fits code t f ≡ true → New k t (state (first_memory k t) f.hand f.carrier)
  fits_new every =
      let g = figures_of f.carrier in
      let all = and_parts (shaped code t f) (unused g) every in
      let rest = (and_parts (eqb t.code code) (sized t (length f.memory) (length f.hand) && carries t g) all.0).1 in
      let parts = and_parts (sized t (length f.memory) (length f.hand)) (carries t g) rest in
      let lengths = and_parts (eqb (length f.memory) (t.switches * block_length t.switches (length t.nodes))) (eqb (length f.hand) (hand_length t.switches (length t.nodes))) parts.0 in
      let same = and_parts (eqb f.carrier.code t.code) (eqb f.carrier.switches t.switches && eqb f.carrier.nodes (length t.nodes)) parts.1 in
      let counts = and_parts (eqb f.carrier.switches t.switches) (eqb f.carrier.nodes (length t.nodes)) same.1 in
      let fresh = and_parts (eqb f.carrier.next 0) (eqb (length f.carrier.held) 0 && leb 1 f.carrier.capacity) all.1 in
      let space = and_parts (eqb (length f.carrier.held) 0) (leb 1 f.carrier.capacity) fresh.1 in
      record {
        memory = refl;
        hand = eqb-true _ _ lengths.1;
        code = eqb-true _ _ same.0;
        switches = eqb-true _ _ counts.0;
        nodes = eqb-true _ _ counts.1;
        some = leb-true _ _ space.1;
        next = eqb-true _ _ fresh.0;
        held = none_held _ (eqb-true _ _ space.0);
      }

  pub opened_as : (memory : List ℕ) (live : Bool) → live ≡ fits code t f → (live ≡ true → memory ≡ first_memory k t) → (live ≡ false → memory ≡ f.memory) → Opened code k t f memory live
  opened_as memory live is opens stays = record {
    is_live = is;
    memory_is = elim (cases_Bool live) [
      | inl e ↦ opens e ∙ sym (cond-true (fits code t f) (first_memory k t) f.memory (sym is ∙ e))
      | inr e ↦ stays e ∙ sym (cond-false (fits code t f) (first_memory k t) f.memory (sym is ∙ e))
    ];
    is_new = λ e. rw (opens e) (fits_new (sym is ∙ e));
  }

-- The blocks of the first switches, one after another

module _ (k : WordKind) (t : Table) (is_sound : sound t ≡ true) (memory : List ℕ) (long : length memory ≡ t.switches * block_length t.switches (length t.nodes)) where
  pub one_more : (i : ℕ) → i < t.switches → ((s : ℕ) → s < i → block_in t memory s ≡ opened k t s)
      → (s : ℕ) → s < i + 1 → block_in t (put_block k t memory i (opened k t i)) s ≡ opened k t s
  one_more i below before s less = elim (cases_eq s i) [
    | inl e ↦ ap (λ z. block_in t (put_block k t memory i (opened k t i)) z) e ∙ put_own k t memory (omega (arith, long)) i below (opened k t i) (opened_length k t is_sound i below) ∙ ap (opened k t) (sym e)
    | inr ne ↦ put_others k t memory (omega (arith, long)) i below (opened k t i) (opened_length k t is_sound i below) s ne ∙ before s (omega arith)
  ]

  pub all_opened : ((s : ℕ) → s < t.switches → block_in t memory s ≡ opened k t s) → memory ≡ first_memory k t
  all_opened each = same_memory k t memory (first_memory k t) long (first_long k t is_sound) (λ s below. each s below ∙ sym (first_block k t is_sound s below))
