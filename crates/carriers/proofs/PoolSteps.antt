-- What a pool's calls do to its meaning. Assumes nothing.
use Rattle.std.proofs.Common.{◌≡◌, ℕ, ◌+◌, ◌<◌, true, false, eqb, List, length, Some, None, Ok, Result, sym, ap, ◌∙◌, subst, arith}
use Rattle.std.proofs.lemmas.Bool.{and_from, cond-false, cond-true, eq-eqb, lt-ltb, ne_eqb, or_from, or_left}
use Rattle.step.specs.Records.{hand_length}
use Rattle.table.specs.Wire.{refuse}
use Rattle.table.specs.declared.fault.Fault.{Fault}
use Rattle.table.specs.declared.fault.Reason.TheVariants.{Full, NotHeld}
use Rattle.carriers.specs.Meanings.{Fetched, Meaning, Put, Retired, copy_under, found_answer, found_hand, last_number, no_space, retired_or_same, sendable, sender, whole_hand, with_copy, without_copy}
use Rattle.carriers.specs.Places.{Distinct, Numbered, held_below, lowest_below}
use Rattle.carriers.specs.Pools.{meaning_of}
use Rattle.carriers.specs.Stores.{Released, Stored}
use Rattle.carriers.specs.declared.shape.Shape.{Shape}
use Rattle.carriers.proofs.HeldPlaces.{held_length, held_put, held_retire, lowest_none, lowest_some, under_absent, under_place, used_free, used_full}

whole_from : (c : Meaning) (hand : List ℕ) → length hand ≡ hand_length c.switches c.nodes → whole_hand c hand ≡ true
whole_from c hand long = eq-eqb _ _ long

sendable_from : (c : Meaning) (hand : List ℕ) → length hand ≡ hand_length c.switches c.nodes → sender hand < c.switches → sendable c hand ≡ true
sendable_from c hand long below = and_from _ _ (eq-eqb _ _ long) (lt-ltb _ _ below)

module _ (s : Shape) (next : ℕ) (flag : ℕ → ℕ) (copy : ℕ → List ℕ) (numbered : Numbered flag s.capacity next) (distinct : Distinct flag s.capacity) (hand : List ℕ) where
  -- Put

  put_no_space : (r : Result ℕ Fault) → r ≡ refuse Full 0 → sendable (meaning_of s next flag copy) hand ≡ true → no_space (meaning_of s next flag copy) ≡ true → Put (meaning_of s next flag copy) (meaning_of s next flag copy) hand r (Unit {0})
  put_no_space r is h g = record {
    answer = is ∙ sym (cond-true _ _ _ h ∙ cond-true _ _ _ g);
    meaning = sym (cond-true _ _ _ h ∙ cond-true _ _ _ g);
    sound = tt;
  }

  pub put_full : (r : Result ℕ Fault) → r ≡ refuse Full 0 → length hand ≡ hand_length s.switches s.nodes → sender hand < s.switches → lowest_below flag 0 s.capacity ≡ None → Put (meaning_of s next flag copy) (meaning_of s next flag copy) hand r (Unit {0})
  put_full r is long below none =
      let h = sendable_from (meaning_of s next flag copy) hand long below in
      let used = held_length flag copy s.capacity ∙ used_full flag s.capacity (lowest_none flag 0 s.capacity none) in
      put_no_space r is h (or_left _ (eqb next last_number) (eq-eqb _ _ used))

  pub put_stored : (t : Shape) (next' : ℕ) (flag' : ℕ → ℕ) (copy' : ℕ → List ℕ) (p : ℕ) → t ≡ s → next' ≡ next + 1 → length hand ≡ hand_length s.switches s.nodes → sender hand < s.switches → (next ≡ last_number → ⊥) → lowest_below flag 0 s.capacity ≡ Some p → Stored flag flag' copy copy' s.capacity p (next + 1) hand → Put (meaning_of s next flag copy) (meaning_of t next' flag' copy') hand (Ok next) (Unit {0})
  put_stored t next' flag' copy' p same up long below ne found st =
      let h = sendable_from (meaning_of s next flag copy) hand long below in
      let at = lowest_some flag 0 s.capacity p found in
      let free : length (held_below flag copy s.capacity) ≡ s.capacity → ⊥ =
      λ e. (let u = used_free flag s.capacity p at.0 at.1 in omega (arith, held_length flag copy s.capacity)) in
      let space : no_space (meaning_of s next flag copy) ≡ false = or_from _ _ (ne_eqb _ _ free) (ne_eqb _ _ ne) in
      let held = held_put flag flag' copy copy' s.capacity p st.others next hand at.0 numbered at.1 st.flagged st.copied in
      let done : meaning_of s (next + 1) flag' copy' ≡ with_copy (meaning_of s next flag copy) hand =
      ap (λ hs. record { code = s.code; switches = s.switches; nodes = s.nodes; capacity = s.capacity; next = next + 1; held = hs }) held in
      subst (λ m. Put (meaning_of s next flag copy) m hand (Ok next) (Unit {0})) (λ i. meaning_of (sym same i) (sym up i) flag' copy') (record {
        answer = sym (cond-true _ _ _ h ∙ cond-false _ _ _ space);
        meaning = done ∙ sym (cond-true _ _ _ h ∙ cond-false _ _ _ space);
        sound = tt;
      })

  -- Fetch and retire

  module _ (number : ℕ) where
    absent : lowest_below flag (number + 1) s.capacity ≡ None → copy_under number (held_below flag copy s.capacity) ≡ None
    absent none = under_absent flag copy number s.capacity (lowest_none flag (number + 1) s.capacity none)

    there : (p : ℕ) → lowest_below flag (number + 1) s.capacity ≡ Some p → copy_under number (held_below flag copy s.capacity) ≡ Some (copy p)
    there p found = let at = lowest_some flag (number + 1) s.capacity p found in under_place flag copy number s.capacity p distinct at.0 at.1

    pub fetch_absent : (r : Result (Unit {0}) Fault) → r ≡ refuse NotHeld 0 → length hand ≡ hand_length s.switches s.nodes → lowest_below flag (number + 1) s.capacity ≡ None → Fetched (meaning_of s next flag copy) number hand hand r
    fetch_absent r is long none = let h = whole_from (meaning_of s next flag copy) hand long in record {
      answer = is ∙ sym (cond-true _ _ _ h ∙ ap found_answer (absent none));
      hand_is = sym (cond-true _ _ _ h ∙ ap (λ o. found_hand o hand) (absent none));
    }

    pub fetch_there : (p : ℕ) (hand' : List ℕ) → length hand ≡ hand_length s.switches s.nodes → lowest_below flag (number + 1) s.capacity ≡ Some p → hand' ≡ copy p → Fetched (meaning_of s next flag copy) number hand hand' (Ok tt)
    fetch_there p hand' long found e = let h = whole_from (meaning_of s next flag copy) hand long in record {
      answer = sym (cond-true _ _ _ h ∙ ap found_answer (there p found));
      hand_is = e ∙ sym (cond-true _ _ _ h ∙ ap (λ o. found_hand o hand) (there p found));
    }

    pub retire_absent : (r : Result (Unit {0}) Fault) → r ≡ refuse NotHeld 0 → lowest_below flag (number + 1) s.capacity ≡ None → Retired (meaning_of s next flag copy) (meaning_of s next flag copy) number r (Unit {0})
    retire_absent r is none = record {
      answer = is ∙ sym (ap found_answer (absent none));
      meaning = sym (ap (λ o. retired_or_same o (meaning_of s next flag copy) number) (absent none));
      sound = tt;
    }

    pub retire_there : (t : Shape) (next' : ℕ) (flag' : ℕ → ℕ) (copy' : ℕ → List ℕ) (p : ℕ) → t ≡ s → next' ≡ next → lowest_below flag (number + 1) s.capacity ≡ Some p → Released flag flag' copy copy' s.capacity p → Retired (meaning_of s next flag copy) (meaning_of t next' flag' copy') number (Ok tt) (Unit {0})
    retire_there t next' flag' copy' p same stays found rel =
        let at = lowest_some flag (number + 1) s.capacity p found in
        let held = held_retire flag flag' copy copy' s.capacity p rel.others number at.0 distinct at.1 rel.freed in
        let done : meaning_of s next flag' copy' ≡ without_copy (meaning_of s next flag copy) number =
        ap (λ hs. record { code = s.code; switches = s.switches; nodes = s.nodes; capacity = s.capacity; next = next; held = hs }) held in
        subst (λ m. Retired (meaning_of s next flag copy) m number (Ok tt) (Unit {0})) (λ i. meaning_of (sym same i) (sym stays i) flag' copy') (record {
          answer = sym (ap found_answer (there p found));
          meaning = done ∙ sym (ap (λ o. retired_or_same o (meaning_of s next flag copy) number) (there p found));
          sound = tt;
        })
