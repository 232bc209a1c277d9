-- Every allowed order gives the same answers and the same memory, and passes through what a switch knows. Assumes nothing.
use Rattle.std.proofs.Common.{◌≡◌, ℕ, suc, ◌+◌, ◌<◌, ◌≤◌, true, cond, List, [], ◌∷◌, ◌++◌, map, length, get_or, take, drop, is_ok, Some, Ok, Result, sym, ap, ◌∙◌, subst, subst₂, inl, inr, add-one, arith}
use Rattle.std.proofs.lemmas.List.{append_assoc, get_or_default, get_or-map, length-append, take_all, take_at, take-map}
use Rattle.std.proofs.lemmas.Bool.{cases_Bool, cases_eq}
use Rattle.table.specs.Tables.{Table, sound}
use Rattle.table.specs.declared.fault.Fault.{Fault}
use Rattle.step.specs.Nodes.{WordKind}
use Rattle.step.specs.Records.{record_of}
use Rattle.step.specs.Steps.{acted_block, own_count, own_mask}
use Rattle.history.specs.Calls.{Call, send_call, Fleet, Reply, answer, block_at, event_reply, ran}
use Rattle.history.specs.Law.{SameAnswer}
use Rattle.history.specs.Orders.{Allowed, New, calls_of, new_number, renamed, sends, times}
use Rattle.history.specs.Runs.{Before, Until, answer_at, answered, call_at, event_of, fleet_at, no_call}
use Rattle.history.proofs.Clocks.{Says, nothing, state, known, tells, until_earlier}
use Rattle.history.proofs.Copies.{send_answer, sent_from_answer}
use Rattle.history.proofs.Counting.{block_between, lower_earlier}
use Rattle.history.proofs.Listing.{split, times_append, times_push, times_push_other, times_same}
use Rattle.history.proofs.Memory as memory
use Rattle.history.proofs.Moments.{block, block_first, block_says, event_below, kept_new, kept_ran, of_event, some_switch}
use Rattle.history.proofs.Sends.{number_in}
use Rattle.history.proofs.Reruns.{Sim, Stands, at_place, doing, in_list, next_event, not_yet, rerun, same_block, sim_at}

-- the fleet after the whole list
pub all_calls : (k : WordKind) (t : Table) (f : Fleet) (calls : List Call) → fleet_at k t f calls (length calls) ≡ ran k t f calls
unfolding fleet_at
all_calls k t f calls = ap (ran k t f) (take_all (length calls) calls (omega arith))

same_ok : {a b : Result Reply Fault} (p q : Reply) → a ≡ Ok p → b ≡ Ok q → p.count ≡ q.count → p.broken ≡ q.broken → SameAnswer a b
same_ok p q a-is b-is count broken = subst₂ SameAnswer (sym a-is) (sym b-is) (count, broken)

module _ (k : WordKind) (t : Table) (f : Fleet) (calls : List Call) (is_sound : sound t ≡ true) (new : New k t f) (order : List ℕ) (allowed : Allowed k t f calls order) (g : Fleet) (new_g : New k t g) (space : sends k t f calls order ≤ g.carrier.capacity) where
  abbrev part : List ℕ → Fleet
  part pre = rerun k t f calls is_sound new order allowed g new_g space pre

  abbrev again : ℕ → Call
  again i = renamed k t f calls order (call_at k t f calls i)

  -- the fleet after the first p calls of the order
  front_is : (p : ℕ) → ran k t g (take p (calls_of k t f calls order)) ≡ part (take p order)
  front_is p = ap (ran k t g) (take-map again p order)

  answer_is : (p : ℕ) → p < length order → answer_at k t g (calls_of k t f calls order) p ≡ answer k t (part (take p order)) (again (get_or order p 0))
  unfolding answer_at fleet_at call_at
  answer_is p less = (λ z. answer k t (front_is p z) (get_or-map again order p 0 no_call less z))

  same_answers : (p : ℕ) → p < length order → SameAnswer (answer_at k t g (calls_of k t f calls order) p) (answer_at k t f calls (get_or order p 0))
  same_answers p less =
      let e = get_or order p 0 in
      let pre = take p order in
      let rest = drop (suc p) order in
      let is = at_place k t f calls is_sound new order allowed g new_g space p less in
      let at = some_switch k t f calls e (next_event k t f calls is_sound new order allowed pre rest e is) in
      let s = at.0 in
      let sim = sim_at k t f calls is_sound new order allowed g new_g space p (omega arith) in
      let here = in_list k t f calls is_sound new order allowed g new_g space pre rest e is sim s at.1 in
      let there = doing k t f calls is_sound new order allowed g new_g space pre rest e is sim s at.1 in
      let same : block_at k t (part pre).memory s ≡ block_at k t (fleet_at k t f calls e).memory s = same_block k t f calls is_sound new order allowed g new_g space pre rest e is sim s at.1 ∙ block_says k t f calls e s in
      same_ok
      (event_reply k t (part pre) s here.act there.0) (event_reply k t (fleet_at k t f calls e) s here.act here.number)
      (answer_is p less ∙ there.1.answered)
      here.answered
      (ap (λ z. own_count (length t.nodes) s (acted_block t s here.act z) + 1) same)
      (ap (λ z. own_mask k t s (acted_block t s here.act z)) same)

  -- the place at p is an event's
  place_inside : (p : ℕ) → p < length order → get_or order p 0 < length calls
  place_inside p less = event_below k t f calls _ (next_event k t f calls is_sound new order allowed (take p order) (drop (suc p) order) (get_or order p 0) (at_place k t f calls is_sound new order allowed g new_g space p less))

  pub every_answer : (p d : ℕ) → p < length order → SameAnswer (answer_at k t g (calls_of k t f calls order) p) (answer_at k t f calls (get_or order p d))
  every_answer p d less = subst (λ z. SameAnswer (answer_at k t g (calls_of k t f calls order) p) (answer_at k t f calls z)) (get_or_default order p 0 d less) (same_answers p less)

  -- the number that a send answers

  same_number : (p s x : ℕ) → p < length order → call_at k t f calls (get_or order p 0) ≡ send_call s → answered k t f calls (answer_at k t f calls (get_or order p 0)) ≡ Some x
      → answered k t f calls (answer_at k t g (calls_of k t f calls order) p) ≡ Some (new_number k t f calls order x)
  same_number p s x less call says =
      let e = get_or order p 0 in
      let pre = take p order in
      let rest = drop (suc p) order in
      let is = at_place k t f calls is_sound new order allowed g new_g space p less in
      let here = next_event k t f calls is_sound new order allowed pre rest e is in
      let sent = sent_from_answer k t f calls is_sound new e s x here call says in
      let sim = sim_at k t f calls is_sound new order allowed g new_g space p (omega arith) in
      let there = doing k t f calls is_sound new order allowed g new_g space pre rest e is sim s sent.is in
      let number : (part pre).carrier.next ≡ new_number k t f calls order x =
      sim.next ∙ sym (ap (λ z. new_number k t f calls z x) is ∙ number_in k t f calls is_sound new pre rest e s x sent (not_yet k t f calls is_sound new order allowed pre rest e is)) in
      ap (answered k t f calls) (answer_is p less ∙ send_answer k t (part pre) s (again e) (ap (renamed k t f calls order) call) (ap is_ok there.1.answered))
      ∙ ap (λ z. Some z) number

  pub every_number : (said : ℕ → Result Reply Fault) → ((i : ℕ) → i < length calls → said i ≡ answer_at k t f calls i) → (p d : ℕ) → p < length order → (s x : ℕ)
      → call_at k t f calls (get_or order p d) ≡ send_call s → answered k t f calls (said (get_or order p d)) ≡ Some x
      → answered k t f calls (answer_at k t g (calls_of k t f calls order) p) ≡ Some (new_number k t f calls order x)
  every_number said said-is p d less s x call says =
      let same = get_or_default order p d 0 less in
      same_number p s x less
      (ap (call_at k t f calls) (sym same) ∙ call)
      (ap (answered k t f calls) (sym (said-is (get_or order p 0) (place_inside p less))) ∙ ap (λ z. answered k t f calls (said z)) (sym same) ∙ says)

  whole : Sim k t f calls is_sound new order allowed g new_g space order
  whole = subst (Sim k t f calls is_sound new order allowed g new_g space) (take_all (length order) order (omega arith)) (sim_at k t f calls is_sound new order allowed g new_g space (length order) (omega arith))

  pub every_memory : (ran k t g (calls_of k t f calls order)).memory ≡ (ran k t f calls).memory
  every_memory =
      memory.same_memory k t (part order).memory (ran k t f calls).memory
      (kept_ran k t g (kept_new k t is_sound g new_g) (map again order)).long
      (kept_ran k t f (kept_new k t is_sound f new) calls).long
      (λ j below.
      let at = whole.blocks j below in
      at.block_is
      ∙ sym (block_between k t f calls is_sound new j at.time (length calls) at.inside (λ q late less. elim (cases_Bool (event_of k t f calls j q)) [
        | inr quiet ↦ quiet
        | inl is ↦
            let in_order : times q order ≡ 1 = allowed.once q ∙ ap {B = ℕ} (λ b. cond b 1 0) (of_event k t f calls j q is) in
            let z : ⊥ = omega (arith, late, (at.parts q is).0 (omega (arith, in_order))) in
            absurd z
      ]))
      ∙ block_says k t f calls (length calls) j
      ∙ ap (λ z. block_at k t z.memory j) (all_calls k t f calls))

  -- An order that begins with what happens before an event, and the event

  module _ (e : ℕ) (front rest : List ℕ) (is : order ≡ front ++ (e ∷ rest)) (exactly : (p q : List ℕ) (i : ℕ) → front ≡ p ++ (i ∷ q) → Before k t f calls i e) (all : (i : ℕ) → Before k t f calls i e → (p : List ℕ) × (q : List ℕ) × (front ≡ p ++ (i ∷ q))) where
    in_front : (q : ℕ) → 1 ≤ times q (front ++ e ∷ []) → Until k t f calls q e
    in_front q some = elim (cases_eq q e) [
      | inl equal ↦ inl equal
      | inr differ ↦
          let s = split q front (omega (arith, some, times_push_other q e front (λ z. differ (sym z)))) in
          inr (exactly s.front s.rest q s.is)
    ]

    front_has : (q : ℕ) → Until k t f calls q e → 1 ≤ times q (front ++ e ∷ [])
    front_has q (inl equal) = omega (arith, ap (λ z. times z (front ++ e ∷ [])) equal, times_push e front)
    front_has q (inr before) =
        let s = all q before in
        omega (arith, times_append q front (e ∷ []), ap (times q) s.2, times_append q s.0 (q ∷ s.1), times_same q s.1)

    front_taken : take (suc (length front)) order ≡ front ++ e ∷ []
    front_taken =
        let whole_is : order ≡ (front ++ e ∷ []) ++ rest = is ∙ sym (append_assoc front (e ∷ []) rest) in
        ap (take (suc (length front))) whole_is ∙ take_at (front ++ e ∷ []) rest (suc (length front)) (length-append front (e ∷ []) ∙ add-one (length front))

    begun : Sim k t f calls is_sound new order allowed g new_g space (front ++ e ∷ [])
    begun =
        subst (Sim k t f calls is_sound new order allowed g new_g space) front_taken
        (sim_at k t f calls is_sound new order allowed g new_g space (suc (length front)) (omega (arith, ap length is, length-append front (e ∷ rest))))

    pub passed : (s j : ℕ) → event_of k t f calls s e ≡ true → j < t.switches
        → record_of (length t.nodes) (block_at k t (ran k t g (take (suc (length front)) (calls_of k t f calls order))).memory j) j ≡ known k t f calls is_sound new (suc e) s j
    passed s j here below =
        ap (λ z. record_of (length t.nodes) (block_at k t z.memory j) j) (front_is (suc (length front)) ∙ ap part front_taken)
        ∙ ap (λ z. record_of (length t.nodes) z j) at.block_is
        ∙ way told.says
      where
        at : Stands k t f calls is_sound new order allowed g new_g space (front ++ e ∷ []) j
        at = begun.blocks j below

        told : Rattle.history.proofs.Clocks.Tells k t f calls is_sound new j (known k t f calls is_sound new (suc e) s j) (λ i. Until k t f calls i e)
        told = tells k t f calls is_sound new e s j here below

        way : Says k t f calls is_sound new j (known k t f calls is_sound new (suc e) s j) → record_of (length t.nodes) (block k t f calls at.time j) j ≡ known k t f calls is_sound new (suc e) s j
        way (nothing zero-count rec-is) =
            ap (λ z. record_of (length t.nodes) z j) (block_between k t f calls is_sound new j 0 at.time (omega arith) (λ q late less. elim (cases_Bool (event_of k t f calls j q)) [
              | inr quiet ↦ quiet
              | inl at-q ↦ let z : ⊥ = omega (arith, zero-count, (told.counts q at-q).0 (in_front q ((at.parts q at-q).1 less))) in absurd z
            ]) ∙ block_first k t f calls is_sound new j below)
            ∙ sym rec-is
        way (state i at_i count rec-is) =
            let heard = (told.counts i at_i).1 (omega (arith, count)) in
            let less_i : i < at.time = (at.parts i at_i).0 (front_has i heard) in
            ap (λ z. record_of (length t.nodes) z j) (block_between k t f calls is_sound new j (suc i) at.time less_i (λ q late less. elim (cases_Bool (event_of k t f calls j q)) [
              | inr quiet ↦ quiet
              | inl at-q ↦
                  let le = lower_earlier k t f calls j q i at_i (omega (arith, count, (told.counts q at-q).0 (in_front q ((at.parts q at-q).1 less)))) in
                  let z : ⊥ = omega (arith, late, le) in
                  absurd z
            ]))
            ∙ sym rec-is
