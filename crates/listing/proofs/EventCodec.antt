-- Reading the bytes of calls and writing them undo each other. Assumes nothing.
use Rattle.std.proofs.Common.{◌≡◌, ℕ, ◌+◌, ◌*◌, ◌≤◌, true, List, [], length, get_or, drop, Ok, sym, refl, ap, ◌∙◌, subst, arith, length-drop}
use Rattle.std.proofs.lemmas.List.{ext_get_or, get_or-drop}
use Rattle.std.proofs.lemmas.Bool.{cond-true, eqb-true, leb-true, le-leb}
use Rattle.std.specs.List.{flat_map}
use Rattle.fleet.specs.declared.call.Call.{Call}
use Rattle.listing.specs.EventLaws.{EventLaws}
use Rattle.listing.specs.Events.{call_bytes, call_size, call_sound, calls_end, calls_from, count_at, events_at, events_bytes, most_calls}
use Rattle.listing.proofs.CallCodec.{call_elements, call_length}
use Rattle.listing.proofs.EventFaults.{refuses_first}
use Rattle.listing.proofs.EventSteps.{events_done}
use Rattle.table.proofs.Arrays.{array_all, array_only, length_joined}
use Rattle.table.proofs.Words.{Stands, stands_append, stands_left, stands_right, and_then_parts, and_then_from, cond_parts, field_from, field_stands}
use Rattle.table.specs.TableLaws.{Bytes}
use Rattle.table.specs.Tables.{array_bytes, every}
use Rattle.table.specs.Wire.{field, word_bytes}
use Rattle.table.specs.declared.fault.Reason.TheVariants as why

calls_length : (cs : List Call) → length (flat_map call_bytes cs) ≡ length cs * call_size
calls_length = length_joined call_bytes call_size call_length

events_length : (cs : List Call) → length (events_bytes cs) ≡ 4 + length cs * call_size
unfolding events_bytes
events_length cs = omega (arith, calls_length cs)

-- what stands at an offset and ends the bytes is the rest from there
rest_is : (bs : List ℕ) (at : ℕ) (ys : List ℕ) → Stands bs at ys → at + length ys ≡ length bs → ys ≡ drop at bs
rest_is bs at ys h end = ext_get_or 0 ys (drop at bs) (sym (length-drop at bs ∙ omega arith)) (λ k l. sym (get_or-drop at bs k 0 ∙ h.same k l))

rest_stands : (bs : List ℕ) (at : ℕ) (ys : List ℕ) → at ≤ length bs → ys ≡ drop at bs → Stands bs at ys
rest_stands bs at ys room e = record {
  room = omega (arith, ap length e ∙ length-drop at bs);
  same = λ k l. sym (ap (λ xs. get_or xs k 0) e ∙ get_or-drop at bs k 0);
}

module _ (bs : List ℕ) (at : ℕ) (bytes : Bytes bs) where
  events_only : (cs : List Call) → events_at bs at ≡ Ok cs → (length cs ≤ most_calls) × (every call_sound cs ≡ true) × (events_bytes cs ≡ drop at bs)
  unfolding events_at count_at call_elements events_bytes
  events_only cs h =
      let n = and_then_parts (count_at bs at) _ cs h in
      let r = and_then_parts (calls_from bs (at + 4) n.0 []) _ cs n.2 in
      let e = cond_parts _ _ _ _ r.2 in
      let w = and_then_parts (field why.Events bs at) _ n.0 n.1 in
      let q = cond_parts _ _ _ _ w.2 in
      let f = field_stands why.Events bs at w.0 bytes w.1 in
      let room : at + 4 ≤ length bs = f.0.room in
      let a = array_only (call_elements bs bytes) n.0 (at + 4) r.0 room r.1 in
      let same : length cs ≡ w.0 = ap length (sym e.1) ∙ a.0 ∙ sym q.1 in
      let few : w.0 ≤ most_calls = leb-true w.0 most_calls q.0 in
      let ends : calls_end at n.0 ≡ length bs = eqb-true _ _ e.0 in
      let counted : Stands bs at (word_bytes (length cs)) = subst (λ k. Stands bs at (word_bytes k)) (sym same) f.0 in
      let listed : Stands bs (at + 4) (flat_map call_bytes cs) = subst (λ xs. Stands bs (at + 4) (flat_map call_bytes xs)) e.1 a.1.stands in (
        omega arith,
        subst (λ xs. every call_sound xs ≡ true) e.1 a.1.sound,
        rest_is bs at _ (stands_append bs at 4 (word_bytes (length cs)) _ refl counted listed) (omega (arith, events_length cs, q.1)),
      )

  events_all : (cs : List Call) → length cs ≤ most_calls → every call_sound cs ≡ true → events_bytes cs ≡ drop at bs → events_at bs at ≡ Ok cs
  unfolding count_at call_elements events_bytes
  events_all cs few sound e =
      let long : length (drop at bs) ≡ 4 + length cs * call_size = ap length (sym e) ∙ events_length cs in
      let room : at ≤ length bs = omega (arith, length-drop at bs) in
      let h = rest_stands bs at (array_bytes call_bytes cs) room e in
      let counted : count_at bs at ≡ Ok (length cs) = and_then_from (field why.Events bs at) _ (length cs) _ (field_from why.Events bs at (length cs) (stands_left bs at (word_bytes (length cs)) _ h)) (cond-true _ _ _ (le-leb _ _ few)) in
      events_done bs at (length cs) counted cs
      (array_all (call_elements bs bytes) cs (at + 4) (record { stands = stands_right bs at 4 (word_bytes (length cs)) _ refl h; sound = sound }))
      (omega (arith, length-drop at bs))

  pub event_laws : EventLaws bs at
  event_laws = record { exactly = record { only = events_only; all = events_all }; first = refuses_first bs at }
