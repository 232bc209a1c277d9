-- What reading the calls answers, from what reading their parts does. Assumes nothing.
use Rattle.std.proofs.Common.{◌≡◌, ℕ, ◌+◌, ◌<◌, cond, leb, List, [], length, Ok, Err, Result, sym, refl, ap, ◌∙◌, inl, inr, arith}
use Rattle.std.proofs.lemmas.Bool.{cases_lt, cond-true, cond-false, eq-eqb, le-leb, lt-leb, ne_eqb}
use Rattle.fleet.specs.declared.call.Call.{Call}
use Rattle.listing.specs.Events.{call_at, calls_end, calls_from, count_at, events_at, rest_at}
use Rattle.listing.specs.Stops.{Says}
use Rattle.listing.specs.declared.stop.Stop.{Stop}
use Rattle.listing.specs.declared.stop.Stop.TheVariants.{Memory, Refused}
use Rattle.table.specs.Wire.{and_then, fault, field, refuse}
use Rattle.table.specs.declared.fault.Fault.{Fault}
use Rattle.table.specs.declared.fault.Reason.TheVariants as why

-- a call whose operation was read before the rest
pub call_done : (bs b : List ℕ) (at i operation : ℕ) (r : Result Call Fault) (rest : List ℕ → ℕ → Result Call Fault) → field why.Events bs at ≡ Ok operation → b ≡ bs → i ≡ at + 4 → r ≡ rest b i → rest bs (at + 4) ≡ rest_at operation bs at → r ≡ call_at bs at
unfolding call_at
call_done bs b at i operation r rest reads same moved said by =
    said ∙ ap (λ x. rest x i) same ∙ ap (rest bs) moved ∙ by ∙ sym (ap (λ x. and_then x (λ o. rest_at o bs at)) reads)

same_fault : (d e : Fault) → ◌≡◌ {A = Result (Unit {0}) Fault} (Err d) (Err e) → d ≡ e
same_fault d e h = cc

module _ (bs : List ℕ) (at : ℕ) where
  -- the bytes end before the calls
  events_beyond : length bs < at → events_at bs at ≡ Err (fault why.Events at)
  unfolding events_at count_at field
  events_beyond h = rw (lt-leb (at + 4) (length bs) (omega arith)) refl

  pub events_unreached : (e : Fault) → ◌≡◌ {A = Result (Unit {0}) Fault} (Err e) (cond (leb at (length bs)) (Ok tt) (refuse why.Events at)) → events_at bs at ≡ Err e
  events_unreached e h = elim (cases_lt (length bs) at) [
    | inl m ↦ events_beyond m ∙ ap Err (sym (same_fault e (fault why.Events at) (h ∙ cond-false _ _ _ (lt-leb at (length bs) m))))
    | inr m ↦ absurd (both (h ∙ cond-true _ _ _ (le-leb at (length bs) m)))
  ]
    where
      both : ◌≡◌ {A = Result (Unit {0}) Fault} (Err e) (Ok tt) → ⊥
      both g = let z : ◌≡◌ {A = ℕ} 0 1 = cc in omega arith

  pub events_uncounted : (e : Fault) → count_at bs at ≡ Err e → events_at bs at ≡ Err e
  unfolding events_at
  events_uncounted e h = rw h refl

  module _ (count : ℕ) (counted : count_at bs at ≡ Ok count) where
    events_refused : (e : Fault) → calls_from bs (at + 4) count [] ≡ Err e → events_at bs at ≡ Err e
    unfolding events_at
    events_refused e h = rw (counted, h) refl

    pub events_unread : (u : Stop Fault) → Says u (calls_from bs (at + 4) count []) → Says u (events_at bs at)
    events_unread (Refused e) h = events_refused e h
    events_unread Memory h = tt

    pub events_left : (cs : List Call) → calls_from bs (at + 4) count [] ≡ Ok cs → (calls_end at count ≡ length bs → ⊥) → events_at bs at ≡ Err (fault why.Events (calls_end at count))
    unfolding events_at
    events_left cs h left = rw (counted, h) (cond-false _ _ _ (ne_eqb _ _ left))

    pub events_done : (cs : List Call) → calls_from bs (at + 4) count [] ≡ Ok cs → calls_end at count ≡ length bs → events_at bs at ≡ Ok cs
    unfolding events_at
    events_done cs h end = rw (counted, h) (cond-true _ _ _ (eq-eqb _ _ end))
