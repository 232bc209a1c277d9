-- What the law says of the answers that the calls really gave, and of the memory that they really left. Assumes nothing.
use Rattle.std.proofs.Common.{◌≡◌, ℕ, zero, suc, ◌<◌, ◌≤◌, true, cond, not, ◌&&◌, List, [], ◌∷◌, length, get_or, Some, Result, ◌==◌, nat_lt, slice_index_or, sym, ap, ◌∙◌, subst, inl, inr, arith}
use Rattle.std.proofs.lemmas.Bool.{cases_Bool}
use Rattle.readings.specs.Ports.{has}
use Rattle.table.specs.Tables.{Table}
use Rattle.table.specs.declared.fault.Fault.{Fault}
use Rattle.table.specs.declared.node.Rule.{Rule}
use Rattle.readings.specs.Kinds.{Kind}
use Rattle.step.specs.Logic.{Values}
use Rattle.step.specs.Nodes.{on_words}
use Rattle.history.specs.AnsweredLaw.{AnsweredLaw, AnsweredNumbers}
use Rattle.history.specs.Calls.{Call, send_call, Fleet, Reply, ran}
use Rattle.history.specs.Law.{Counts, Fits, History, PassedThrough, SameAnswer, mask_of}
use Rattle.history.specs.Orders.{Allowed, calls_of, new_number, times}
use Rattle.history.specs.Runs.{Nth, answer_at, answered, call_at, event}
use Rattle.history.proofs.EveryOrder.{all_calls}
use Rattle.history.proofs.Listing.{times_same}
use Rattle.history.proofs.Moments.{event_below}

-- what stands in a list stands there at least once
times_at : (xs : List ℕ) (p d : ℕ) → p < length xs → 1 ≤ times (get_or xs p d) xs
unfolding times
times_at [] p d less = absurd (omega (arith, less))
times_at (x ∷ xs) zero d less = omega (arith, times_same x xs)
times_at (x ∷ xs) (suc p) d less = omega (arith, times_at xs p d (omega arith))

-- said are the answers that the calls really gave, and left is the memory that the last of them really left
module _ {R : Type 0} (k : Kind R) (t : Table) (f : Fleet) (calls : List Call) (said : ℕ → Result Reply Fault) (left : List ℕ) where
  -- The verdict of an event: its mask has exactly the rules at its switch that are false at the state that it makes
  abbrev pub AnsweredVerdict : ℕ → Type 0
  AnsweredVerdict e =
      (values : ℕ → ℕ → Values R) → History k t f calls values → (s n : ℕ) → Nth (on_words k) t f calls s n e → (r : ℕ) (d : Rule)
      → has (mask_of (said e)) r
      ≡ (nat_lt r (length t.rules) && ((get_or t.rules r d).switch == s && not ((values s n).truths (get_or t.rules r d).node)))

  -- Every allowed order gives the same answers and the same memory
  pub record AnsweredSame : Type 0 where
    pub answers : (order : List ℕ) → Allowed (on_words k) t f calls order → (g : Fleet) → Fits k t f calls order g → (p : ℕ) (d : ℕ) → p < length order
        → SameAnswer (answer_at (on_words k) t g (calls_of (on_words k) t f calls order) p) (said (slice_index_or order p d))
    -- and the number that a send answers there is the one that the receives of its copy name
    pub numbers : (order : List ℕ) → Allowed (on_words k) t f calls order → (g : Fleet) → Fits k t f calls order g → (p : ℕ) (d : ℕ) → p < length order → (s x : ℕ)
        → call_at (on_words k) t f calls (slice_index_or order p d) ≡ send_call s → answered (on_words k) t f calls (said (slice_index_or order p d)) ≡ Some x
        → answered (on_words k) t f calls (answer_at (on_words k) t g (calls_of (on_words k) t f calls order) p) ≡ Some (new_number (on_words k) t f calls order x)
    pub memory : (order : List ℕ) → Allowed (on_words k) t f calls order → (g : Fleet) → Fits k t f calls order g
        → (ran (on_words k) t g (calls_of (on_words k) t f calls order)).memory ≡ left

  -- All of it together
  pub record Answered : Type 0 where
    -- there are such values, so the verdict says something
    pub values : (v : ℕ → ℕ → Values R) × History k t f calls v
    pub verdict : (e : ℕ) → event (on_words k) t f calls e ≡ true → AnsweredVerdict e
    pub numbers : (e : ℕ) → event (on_words k) t f calls e ≡ true → AnsweredNumbers k t f calls said left e
    pub counts : (e : ℕ) → event (on_words k) t f calls e ≡ true → Counts k t f calls e
    pub passed : (e : ℕ) → event (on_words k) t f calls e ≡ true → PassedThrough k t f calls e
    pub same : AnsweredSame

  -- an allowed order has only events
  in_order : (order : List ℕ) → Allowed (on_words k) t f calls order → (p d : ℕ) → p < length order → event (on_words k) t f calls (get_or order p d) ≡ true
  in_order order allowed p d less =
      let e = get_or order p d in
      elim (cases_Bool (event (on_words k) t f calls e)) [
        | inl is ↦ is
        | inr quiet ↦ let z : ⊥ = omega (arith, times_at order p d less, allowed.once e, ap {B = ℕ} (λ b. cond b 1 0) quiet) in absurd z
      ]

  -- It follows from the law
  pub answered_law : AnsweredLaw k t f calls said left → Answered
  answered_law a = record {
    values = a.law.values;
    verdict = λ e is values history s n nth r d.
        ap (λ z. has (mask_of z) r) (sym (a.told e (event_below (on_words k) t f calls e is))) ∙ a.law.verdict e is values history s n nth r d;
    numbers = a.numbers;
    counts = a.law.counts;
    passed = a.law.passed;
    same = record {
      answers = λ order allowed g fits p d less.
          subst (SameAnswer (answer_at (on_words k) t g (calls_of (on_words k) t f calls order) p))
          (a.told (get_or order p d) (event_below (on_words k) t f calls _ (in_order order allowed p d less)))
          (a.law.same.answers order allowed g fits p d less);
      numbers = a.copies;
      memory = λ order allowed g fits.
          a.law.same.memory order allowed g fits ∙ sym (ap (λ z. z.memory) (all_calls (on_words k) t f calls)) ∙ a.ended;
    };
  }
