-- Reading a call's bytes and writing them undo each other. Assumes nothing.
use Rattle.std.proofs.Common.{◌≡◌, ℕ, ◌+◌, ◌^◌, true, cond, eqb, List, length, Ok, Err, Result, sym, refl, ◌∙◌, subst, inl, inr, arith}
use Rattle.std.proofs.lemmas.Bool.{and_from, cases_Bool, cond-false, cond-true, eqb-true, lt-ltb}
use Rattle.fleet.specs.declared.call.Call.{Call}
use Rattle.fleet.specs.declared.call.Call.TheVariants.{Set, Send, Receive, Retire}
use Rattle.listing.specs.Events.{call_at, call_bytes, call_size, call_sound, call_words, calls_from, receive_at, rest_at, retire_at, send_at, set_at, unused_at}
use Rattle.table.proofs.Arrays.{Elements}
use Rattle.table.proofs.Words.{Stands, stands_append, stands_left, stands_right, and_then_parts, and_then_from, cond_parts, field_from, field_stands, ok_same}
use Rattle.table.specs.TableLaws.{Bytes}
use Rattle.table.specs.Tables.{every, is_word, items_from}
use Rattle.table.specs.Wire.{field, refuse, word_bytes}
use Rattle.table.specs.declared.fault.Fault.{Fault}
use Rattle.table.specs.declared.fault.Reason.TheVariants as why

-- four words, one after another
stands_four : (bs : List ℕ) (at o s a b : ℕ) → Stands bs at (word_bytes o) → Stands bs (at + 4) (word_bytes s) → Stands bs (at + 4 + 4) (word_bytes a) → Stands bs (at + 4 + 4 + 4) (word_bytes b) → Stands bs at (call_words o s a b)
stands_four bs at o s a b h g f e =
    stands_append bs at 4 (word_bytes o) _ refl h
    (stands_append bs (at + 4) 4 (word_bytes s) _ refl g
    (stands_append bs (at + 4 + 4) 4 (word_bytes a) _ refl f e))

record Four (bs : List ℕ) (at o s a b : ℕ) : Type 0 where
  first : Stands bs at (word_bytes o)
  second : Stands bs (at + 4) (word_bytes s)
  third : Stands bs (at + 4 + 4) (word_bytes a)
  fourth : Stands bs (at + 4 + 4 + 4) (word_bytes b)

four_stand : (bs : List ℕ) (at o s a b : ℕ) → Stands bs at (call_words o s a b) → Four bs at o s a b
four_stand bs at o s a b h =
    let g = stands_right bs at 4 (word_bytes o) _ refl h in
    let f = stands_right bs (at + 4) 4 (word_bytes s) _ refl g in
    record {
      first = stands_left bs at _ _ h;
      second = stands_left bs (at + 4) _ _ g;
      third = stands_left bs (at + 4 + 4) _ _ f;
      fourth = stands_right bs (at + 4 + 4) 4 (word_bytes a) _ refl f;
    }

-- every call has as many bytes
pub call_length : (x : Call) → length (call_bytes x) ≡ call_size
call_length (Set s a b) = refl
call_length (Send s) = refl
call_length (Receive s a) = refl
call_length (Retire a) = refl

refused_none : (e : Fault) (x : Call) → ◌≡◌ {A = Result Call Fault} (Err e) (Ok x) → ⊥
refused_none e x h = let z : ◌≡◌ {A = ℕ} 0 1 = cc in omega arith

module _ (bs : List ℕ) (bytes : Bytes bs) where
  -- a word that was read
  there : (at w : ℕ) → field why.Events bs at ≡ Ok w → Stands bs at (word_bytes w) × (is_word w ≡ true)
  there at w h = let p = field_stands why.Events bs at w bytes h in (p.0, lt-ltb w (2 ^ 32) p.1)

  unused_only : (at : ℕ) (u : Unit {0}) → unused_at bs at ≡ Ok u → Stands bs at (word_bytes 0)
  unfolding unused_at
  unused_only at u h =
      let p = and_then_parts (field why.Events bs at) _ u h in
      let q = cond_parts _ _ _ _ p.2 in
      subst (λ w. Stands bs at (word_bytes w)) (eqb-true p.0 0 q.0) (there at p.0 p.1).0

  unused_all : (at : ℕ) → Stands bs at (word_bytes 0) → unused_at bs at ≡ Ok tt
  unfolding unused_at
  unused_all at h = and_then_from (field why.Events bs at) _ 0 tt (field_from why.Events bs at 0 h) refl

  -- a call that was read stands there, and its numbers are words
  pub record Read (at : ℕ) (x : Call) : Type 0 where
    pub stands : Stands bs at (call_bytes x)
    pub sound : call_sound x ≡ true

  module _ (at : ℕ) (x : Call) where
    set_only : Stands bs at (word_bytes 1) → set_at bs (at + 4) ≡ Ok x → Read at x
    set_only o h =
        let s = and_then_parts _ _ x h in
        let a = and_then_parts _ _ x s.2 in
        let b = and_then_parts _ _ x a.2 in
        let sf = there (at + 4) s.0 s.1 in
        let af = there (at + 4 + 4) a.0 a.1 in
        let bf = there (at + 4 + 4 + 4) b.0 b.1 in
        subst (Read at) (ok_same _ _ b.2) (record {
          stands = stands_four bs at 1 s.0 a.0 b.0 o sf.0 af.0 bf.0;
          sound = and_from _ _ sf.1 (and_from _ _ af.1 bf.1);
        })

    send_only : Stands bs at (word_bytes 2) → send_at bs (at + 4) ≡ Ok x → Read at x
    send_only o h =
        let s = and_then_parts _ _ x h in
        let a = and_then_parts _ _ x s.2 in
        let b = and_then_parts _ _ x a.2 in
        let sf = there (at + 4) s.0 s.1 in
        subst (Read at) (ok_same _ _ b.2) (record {
          stands = stands_four bs at 2 s.0 0 0 o sf.0 (unused_only (at + 4 + 4) a.0 a.1) (unused_only (at + 4 + 4 + 4) b.0 b.1);
          sound = sf.1;
        })

    receive_only : Stands bs at (word_bytes 3) → receive_at bs (at + 4) ≡ Ok x → Read at x
    receive_only o h =
        let s = and_then_parts _ _ x h in
        let a = and_then_parts _ _ x s.2 in
        let b = and_then_parts _ _ x a.2 in
        let sf = there (at + 4) s.0 s.1 in
        let af = there (at + 4 + 4) a.0 a.1 in
        subst (Read at) (ok_same _ _ b.2) (record {
          stands = stands_four bs at 3 s.0 a.0 0 o sf.0 af.0 (unused_only (at + 4 + 4 + 4) b.0 b.1);
          sound = and_from _ _ sf.1 af.1;
        })

    retire_only : Stands bs at (word_bytes 4) → retire_at bs (at + 4) ≡ Ok x → Read at x
    retire_only o h =
        let s = and_then_parts _ _ x h in
        let a = and_then_parts _ _ x s.2 in
        let b = and_then_parts _ _ x a.2 in
        let af = there (at + 4 + 4) a.0 a.1 in
        subst (Read at) (ok_same _ _ b.2) (record {
          stands = stands_four bs at 4 0 a.0 0 o (unused_only (at + 4) s.0 s.1) af.0 (unused_only (at + 4 + 4 + 4) b.0 b.1);
          sound = af.1;
        })

    module _ (o : ℕ) (first : Stands bs at (word_bytes o)) where
      -- the operation is k
      is : (k : ℕ) → eqb o k ≡ true → Stands bs at (word_bytes k)
      is k e = subst (λ w. Stands bs at (word_bytes w)) (eqb-true o k e) first

      rest_only : rest_at o bs at ≡ Ok x → Read at x
      rest_only h = elim (cases_Bool (eqb o 1)) [
        | inl e ↦ set_only (is 1 e) (sym (cond-true _ _ _ e) ∙ h)
        | inr n ↦ after_set (sym (cond-false _ _ _ n) ∙ h)
      ]
        where
          retired : cond (eqb o 4) (retire_at bs (at + 4)) (refuse why.Events at) ≡ Ok x → Read at x
          retired g = elim (cases_Bool (eqb o 4)) [
            | inl e ↦ retire_only (is 4 e) (sym (cond-true _ _ _ e) ∙ g)
            | inr n ↦ absurd (refused_none _ x (sym (cond-false _ _ _ n) ∙ g))
          ]

          received : cond (eqb o 3) (receive_at bs (at + 4)) (cond (eqb o 4) (retire_at bs (at + 4)) (refuse why.Events at)) ≡ Ok x → Read at x
          received g = elim (cases_Bool (eqb o 3)) [
            | inl e ↦ receive_only (is 3 e) (sym (cond-true _ _ _ e) ∙ g)
            | inr n ↦ retired (sym (cond-false _ _ _ n) ∙ g)
          ]

          after_set : cond (eqb o 2) (send_at bs (at + 4)) (cond (eqb o 3) (receive_at bs (at + 4)) (cond (eqb o 4) (retire_at bs (at + 4)) (refuse why.Events at))) ≡ Ok x → Read at x
          after_set g = elim (cases_Bool (eqb o 2)) [
            | inl e ↦ send_only (is 2 e) (sym (cond-true _ _ _ e) ∙ g)
            | inr n ↦ received (sym (cond-false _ _ _ n) ∙ g)
          ]

    pub call_only : call_at bs at ≡ Ok x → Read at x
    unfolding call_at
    call_only h =
        let o = and_then_parts (field why.Events bs at) _ x h in
        rest_only o.0 (there at o.0 o.1).0 o.2

  pub call_all : (at : ℕ) (x : Call) → Stands bs at (call_bytes x) → call_at bs at ≡ Ok x
  unfolding call_at
  call_all at (Set s a b) h =
      let f = four_stand bs at 1 s a b h in
      and_then_from (field why.Events bs at) _ 1 _ (field_from why.Events bs at 1 f.first)
      (and_then_from (field why.Events bs (at + 4)) _ s _ (field_from why.Events bs (at + 4) s f.second)
      (and_then_from (field why.Events bs (at + 4 + 4)) _ a _ (field_from why.Events bs (at + 4 + 4) a f.third)
      (and_then_from (field why.Events bs (at + 4 + 4 + 4)) _ b _ (field_from why.Events bs (at + 4 + 4 + 4) b f.fourth) refl)))
  call_all at (Send s) h =
      let f = four_stand bs at 2 s 0 0 h in
      and_then_from (field why.Events bs at) _ 2 _ (field_from why.Events bs at 2 f.first)
      (and_then_from (field why.Events bs (at + 4)) _ s _ (field_from why.Events bs (at + 4) s f.second)
      (and_then_from (unused_at bs (at + 4 + 4)) _ tt _ (unused_all (at + 4 + 4) f.third)
      (and_then_from (unused_at bs (at + 4 + 4 + 4)) _ tt _ (unused_all (at + 4 + 4 + 4) f.fourth) refl)))
  call_all at (Receive s a) h =
      let f = four_stand bs at 3 s a 0 h in
      and_then_from (field why.Events bs at) _ 3 _ (field_from why.Events bs at 3 f.first)
      (and_then_from (field why.Events bs (at + 4)) _ s _ (field_from why.Events bs (at + 4) s f.second)
      (and_then_from (field why.Events bs (at + 4 + 4)) _ a _ (field_from why.Events bs (at + 4 + 4) a f.third)
      (and_then_from (unused_at bs (at + 4 + 4 + 4)) _ tt _ (unused_all (at + 4 + 4 + 4) f.fourth) refl)))
  call_all at (Retire a) h =
      let f = four_stand bs at 4 0 a 0 h in
      and_then_from (field why.Events bs at) _ 4 _ (field_from why.Events bs at 4 f.first)
      (and_then_from (unused_at bs (at + 4)) _ tt _ (unused_all (at + 4) f.second)
      (and_then_from (field why.Events bs (at + 4 + 4)) _ a _ (field_from why.Events bs (at + 4 + 4) a f.third)
      (and_then_from (unused_at bs (at + 4 + 4 + 4)) _ tt _ (unused_all (at + 4 + 4 + 4) f.fourth) refl)))

  unfoldable pub call_elements : Elements bs Call
  unfolding items_from
  call_elements = record {
    read = λ at _. call_at bs at;
    from = calls_from bs;
    size = call_size;
    bytes = call_bytes;
    fits = λ _ x. call_sound x;
    sounds = λ _ xs. every call_sound xs;
    from_none = λ at earlier. refl;
    from_more = λ at count earlier. refl;
    sounds_none = λ earlier. refl;
    sounds_more = λ earlier x xs. refl;
    sized = call_length;
    only = λ at earlier x h. let r = call_only at x h in (r.stands, r.sound);
    all = λ at earlier x h _. call_all at x h;
  }
