-- The calls' refusal is the first fault of their conditions. Assumes nothing.
use Rattle.std.proofs.Common.{◌≡◌, ℕ, ◌+◌, ◌*◌, true, false, cond, eqb, leb, List, [], ◌∷◌, length, Ok, Result, sym, refl, ◌∙◌, subst, inl, inr, arith}
use Rattle.std.proofs.lemmas.Bool.{and_parts, cases_Bool, cond-false, eqb-false, eqb-true, leb-true}
use Rattle.fleet.specs.declared.call.Call.{Call}
use Rattle.fleet.specs.declared.call.Call.TheVariants.{Set, Send, Receive, Retire}
use Rattle.listing.specs.EventLaws.{allowed, call_conditions, event_conditions, operand_conditions, present, word_conditions}
use Rattle.listing.specs.Events.{call_at, call_size, calls_end, calls_from, count_at, events_at, most_calls, receive_at, rest_at, retire_at, send_at, set_at, unused_at}
use Rattle.table.proofs.FirstFault.{Agrees, agrees_refusal, followed, good, bad, judgement, loop_agrees, made_of}
use Rattle.table.specs.TableLaws.{Condition, each, first_fault, refusal}
use Rattle.table.specs.Tables.{items_from}
use Rattle.table.specs.Wire.{and_then, fault, field, refuse, word_at, between}
use Rattle.table.specs.declared.fault.Fault.{Fault}
use Rattle.table.specs.declared.fault.Reason.TheVariants as why

-- other conditions with the same first fault
agrees_same : {A : Type 0} (r : Result A Fault) (cs ds : List Condition) (v : A) → first_fault cs ≡ first_fault ds → Agrees r cs v → Agrees r ds v
agrees_same r cs ds v e (good p q) = good p (sym e ∙ q)
agrees_same r cs ds v e (bad x p q) = bad x p (sym e ∙ q)

module _ (bs : List ℕ) where
  there_agrees : (i : ℕ) → Agrees (field why.Events bs i) (present bs i ∷ []) (word_at bs i)
  unfolding field
  there_agrees i = judgement (leb (i + 4) (length bs)) (fault why.Events i) (word_at bs i)

  used_agrees : (i : ℕ) → Agrees (field why.Events bs i) (word_conditions true bs i) (word_at bs i)
  used_agrees i = agrees_same _ (present bs i ∷ []) (word_conditions true bs i) _ refl (there_agrees i)

  unused_agrees : (i : ℕ) → Agrees (unused_at bs i) (word_conditions false bs i) tt
  unfolding unused_at
  unused_agrees i =
      followed (field why.Events bs i) (λ w. cond (eqb w 0) (Ok tt) (refuse why.Events i)) (present bs i ∷ []) (allowed (eqb (word_at bs i) 0) i ∷ []) (word_at bs i) tt
      (there_agrees i) (judgement (eqb (word_at bs i) 0) (fault why.Events i) tt)

  module _ (at : ℕ) where
    set_agrees : Agrees (set_at bs (at + 4)) (operand_conditions 1 bs at) (Set (word_at bs (at + 4)) (word_at bs (at + 4 + 4)) (word_at bs (at + 4 + 4 + 4)))
    set_agrees =
        followed _ (λ s. and_then (field why.Events bs (at + 4 + 4)) (λ a. and_then (field why.Events bs (at + 4 + 4 + 4)) (λ b. Ok (Set s a b)))) _ _ (word_at bs (at + 4)) _
        (used_agrees (at + 4))
        (followed _ (λ a. and_then (field why.Events bs (at + 4 + 4 + 4)) (λ b. Ok (Set (word_at bs (at + 4)) a b))) _ _ (word_at bs (at + 4 + 4)) _
        (used_agrees (at + 4 + 4))
        (made_of _ (λ b. Set (word_at bs (at + 4)) (word_at bs (at + 4 + 4)) b) _ (word_at bs (at + 4 + 4 + 4)) (used_agrees (at + 4 + 4 + 4))))

    send_agrees : Agrees (send_at bs (at + 4)) (operand_conditions 2 bs at) (Send (word_at bs (at + 4)))
    send_agrees =
        followed _ (λ s. and_then (unused_at bs (at + 4 + 4)) (λ _. and_then (unused_at bs (at + 4 + 4 + 4)) (λ _. Ok (Send s)))) _ _ (word_at bs (at + 4)) _
        (used_agrees (at + 4))
        (followed _ (λ _. and_then (unused_at bs (at + 4 + 4 + 4)) (λ _. Ok (Send (word_at bs (at + 4))))) _ _ tt _
        (unused_agrees (at + 4 + 4))
        (made_of _ (λ _. Send (word_at bs (at + 4))) _ tt (unused_agrees (at + 4 + 4 + 4))))

    receive_agrees : Agrees (receive_at bs (at + 4)) (operand_conditions 3 bs at) (Receive (word_at bs (at + 4)) (word_at bs (at + 4 + 4)))
    receive_agrees =
        followed _ (λ s. and_then (field why.Events bs (at + 4 + 4)) (λ a. and_then (unused_at bs (at + 4 + 4 + 4)) (λ _. Ok (Receive s a)))) _ _ (word_at bs (at + 4)) _
        (used_agrees (at + 4))
        (followed _ (λ a. and_then (unused_at bs (at + 4 + 4 + 4)) (λ _. Ok (Receive (word_at bs (at + 4)) a))) _ _ (word_at bs (at + 4 + 4)) _
        (used_agrees (at + 4 + 4))
        (made_of _ (λ _. Receive (word_at bs (at + 4)) (word_at bs (at + 4 + 4))) _ tt (unused_agrees (at + 4 + 4 + 4))))

    retire_agrees : Agrees (retire_at bs (at + 4)) (operand_conditions 4 bs at) (Retire (word_at bs (at + 4 + 4)))
    retire_agrees =
        followed _ (λ _. and_then (field why.Events bs (at + 4 + 4)) (λ a. and_then (unused_at bs (at + 4 + 4 + 4)) (λ _. Ok (Retire a)))) _ _ tt _
        (unused_agrees (at + 4))
        (followed _ (λ a. and_then (unused_at bs (at + 4 + 4 + 4)) (λ _. Ok (Retire a))) _ _ (word_at bs (at + 4 + 4)) _
        (used_agrees (at + 4 + 4))
        (made_of _ (λ _. Retire (word_at bs (at + 4 + 4))) _ tt (unused_agrees (at + 4 + 4 + 4))))

    -- the rest of a call, whatever its operation
    record Rest (o : ℕ) : Type 0 where
      value : Call
      agrees : Agrees (rest_at o bs at) (allowed (between 1 4 o) at ∷ operand_conditions o bs at) value

    rest_1 : Rest 1
    rest_1 = record { value = _; agrees = agrees_same _ (operand_conditions 1 bs at) _ _ refl set_agrees }

    rest_2 : Rest 2
    rest_2 = record { value = _; agrees = agrees_same _ (operand_conditions 2 bs at) _ _ refl send_agrees }

    rest_3 : Rest 3
    rest_3 = record { value = _; agrees = agrees_same _ (operand_conditions 3 bs at) _ _ refl receive_agrees }

    rest_4 : Rest 4
    rest_4 = record { value = _; agrees = agrees_same _ (operand_conditions 4 bs at) _ _ refl retire_agrees }

    rest_none : (o : ℕ) → eqb o 1 ≡ false → eqb o 2 ≡ false → eqb o 3 ≡ false → eqb o 4 ≡ false → Rest o
    rest_none o n1 n2 n3 n4 = record {
      value = Retire 0;
      agrees = bad (fault why.Events at)
          (cond-false _ _ _ n1 ∙ cond-false _ _ _ n2 ∙ cond-false _ _ _ n3 ∙ cond-false _ _ _ n4)
          (cond-false _ _ _ outside);
    }
      where
        outside : between 1 4 o ≡ false
        outside = elim (cases_Bool (between 1 4 o)) [
          | inl e ↦
              let p = and_parts (leb 1 o) (leb o 4) e in
              absurd (omega (arith, leb-true 1 o p.0, leb-true o 4 p.1, eqb-false o 1 n1, eqb-false o 2 n2, eqb-false o 3 n3, eqb-false o 4 n4))
          | inr e ↦ e
        ]

    is : (o k : ℕ) → eqb o k ≡ true → Rest k → Rest o
    is o k e r = subst Rest (sym (eqb-true o k e)) r

    rest : (o : ℕ) → Rest o
    rest o = elim (cases_Bool (eqb o 1)) [
      | inl e ↦ is o 1 e rest_1
      | inr n1 ↦ elim (cases_Bool (eqb o 2)) [
        | inl e ↦ is o 2 e rest_2
        | inr n2 ↦ elim (cases_Bool (eqb o 3)) [
          | inl e ↦ is o 3 e rest_3
          | inr n3 ↦ elim (cases_Bool (eqb o 4)) [ inl e ↦ is o 4 e rest_4 | inr n4 ↦ rest_none o n1 n2 n3 n4 ]
        ]
      ]
    ]

    -- the call at an offset, whatever the bytes are
    call_value : Call
    call_value = (rest (word_at bs at)).value

    call_agrees : Agrees (call_at bs at) (call_conditions bs at) call_value
    unfolding call_at call_value
    call_agrees =
        followed (field why.Events bs at) (λ o. rest_at o bs at) (present bs at ∷ []) (allowed (between 1 4 (word_at bs at)) at ∷ operand_conditions (word_at bs at) bs at) (word_at bs at) _
        (there_agrees at) (rest (word_at bs at)).agrees

  calls_agree : (start count : ℕ) → Agrees (calls_from bs start count []) (each (λ i. call_conditions bs (start + i * call_size)) count) (each (λ i. call_value (start + i * call_size) ∷ []) count)
  unfolding items_from
  calls_agree start =
      loop_agrees start call_size (λ at earlier. call_at bs at) (calls_from bs) (λ at earlier. refl) (λ at count earlier. refl)
      (λ i. call_value (start + i * call_size)) (each (λ i. call_value (start + i * call_size) ∷ [])) refl (λ i. refl)
      (λ i. call_conditions bs (start + i * call_size)) (λ i. call_agrees (start + i * call_size))

  count_agrees : (at : ℕ) → Agrees (count_at bs at) (present bs at ∷ allowed (leb (word_at bs at) most_calls) at ∷ []) (word_at bs at)
  unfolding count_at
  count_agrees at =
      followed (field why.Events bs at) (λ w. cond (leb w most_calls) (Ok w) (refuse why.Events at)) (present bs at ∷ []) (allowed (leb (word_at bs at) most_calls) at ∷ []) (word_at bs at) (word_at bs at)
      (there_agrees at) (judgement (leb (word_at bs at) most_calls) (fault why.Events at) (word_at bs at))

  pub refuses_first : (at : ℕ) → refusal (events_at bs at) ≡ first_fault (event_conditions bs at)
  unfolding events_at
  refuses_first at =
      let count : ℕ = word_at bs at in
      let end : ℕ = calls_end at count in
      agrees_refusal (events_at bs at) (event_conditions bs at) _
      (followed _ (λ n. and_then (calls_from bs (at + 4) n []) (λ cs. cond (eqb (calls_end at n) (length bs)) (Ok cs) (refuse why.Events (calls_end at n))))
      (present bs at ∷ allowed (leb count most_calls) at ∷ []) _ count _
      (count_agrees at)
      (followed _ (λ cs. cond (eqb end (length bs)) (Ok cs) (refuse why.Events end)) (each (λ i. call_conditions bs (at + 4 + i * call_size)) count) (allowed (eqb end (length bs)) end ∷ []) _ _
      (calls_agree (at + 4) count)
      (judgement (eqb end (length bs)) (fault why.Events end) _)))
