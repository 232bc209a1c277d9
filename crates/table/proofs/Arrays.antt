-- Elements of one size, one after another: reading them undoes their bytes. Assumes nothing.
use Rattle.std.proofs.Common.{◌≡◌, ℕ, zero, suc, ◌+◌, ◌*◌, ◌≤◌, Bool, true, ◌&&◌, List, [], ◌∷◌, ◌++◌, length, Ok, Result, sym, refl, ap, ◌∙◌, subst, append_assoc, append-nil, arith, length-append}
use Rattle.std.specs.List.{flat_map}
use Rattle.std.proofs.lemmas.Bool.{and_parts, and_from}
use Rattle.table.specs.Wire.{and_then}
use Rattle.table.specs.declared.fault.Fault.{Fault}
use Rattle.table.proofs.Words.{Stands, stands_none, stands_left, stands_right, stands_append, and_then_parts, and_then_from}

-- the elements of an array in bs: how one is read, and its bytes
pub record Elements (bs : List ℕ) (X : Type 0) : Type 0 where
  pub read : ℕ → List X → Result X Fault
  pub from : ℕ → ℕ → List X → Result (List X) Fault
  pub size : ℕ
  pub bytes : X → List ℕ
  pub fits : List X → X → Bool
  pub sounds : List X → List X → Bool
  pub from_none : (at : ℕ) (earlier : List X) → from at zero earlier ≡ Ok earlier
  pub from_more : (at count : ℕ) (earlier : List X) → from at (suc count) earlier ≡ and_then (read at earlier) (λ x. from (at + size) count (earlier ++ x ∷ []))
  pub sounds_none : (earlier : List X) → sounds earlier [] ≡ true
  pub sounds_more : (earlier : List X) (x : X) (xs : List X) → sounds earlier (x ∷ xs) ≡ (fits earlier x && sounds (earlier ++ x ∷ []) xs)
  pub sized : (x : X) → length (bytes x) ≡ size
  pub only : (at : ℕ) (earlier : List X) (x : X) → read at earlier ≡ Ok x → Stands bs at (bytes x) × (fits earlier x ≡ true)
  pub all : (at : ℕ) (earlier : List X) (x : X) → Stands bs at (bytes x) → fits earlier x ≡ true → read at earlier ≡ Ok x

pub length_joined : {X : Type 0} (f : X → List ℕ) (size : ℕ) → ((x : X) → length (f x) ≡ size) → (xs : List X) → length (flat_map f xs) ≡ length xs * size
length_joined f size sized [] = omega arith
length_joined f size sized (x ∷ xs) = length-append (f x) (flat_map f xs) ∙ omega (arith, sized x, length_joined f size sized xs)

module _ {bs : List ℕ} {X : Type 0} (c : Elements bs X) where
  -- xs stands at an offset, and may stand after the elements of earlier
  pub record Array (at : ℕ) (earlier xs : List X) : Type 0 where
    pub stands : Stands bs at (flat_map c.bytes xs)
    pub sound : c.sounds earlier xs ≡ true

  array_more : (at : ℕ) (earlier : List X) (x : X) (xs : List X) → Stands bs at (c.bytes x) × (c.fits earlier x ≡ true) → Array (at + c.size) (earlier ++ x ∷ []) xs → Array at earlier (x ∷ xs)
  array_more at earlier x xs h a = record {
    stands = stands_append bs at c.size (c.bytes x) _ (c.sized x) h.0 a.stands;
    sound = c.sounds_more earlier x xs ∙ and_from _ _ h.1 a.sound;
  }

  array_parts : (at : ℕ) (earlier : List X) (x : X) (xs : List X) → Array at earlier (x ∷ xs) → Stands bs at (c.bytes x) × (c.fits earlier x ≡ true) × Array (at + c.size) (earlier ++ x ∷ []) xs
  array_parts at earlier x xs a =
      let p = and_parts _ _ (sym (c.sounds_more earlier x xs) ∙ a.sound) in
      (stands_left bs at _ _ a.stands, p.0, record { stands = stands_right bs at c.size (c.bytes x) _ (c.sized x) a.stands; sound = p.1 })

  array_after : (count at : ℕ) (earlier ys : List X) → at ≤ length bs → c.from at count earlier ≡ Ok ys → (xs : List X) × (ys ≡ earlier ++ xs) × (length xs ≡ count) × Array at earlier xs
  array_after zero at earlier ys room h =
      let e = sym (c.from_none at earlier) ∙ h in
      ([], cc (append-nil earlier), refl, record { stands = stands_none bs at room; sound = c.sounds_none earlier })
  array_after (suc count) at earlier ys room h =
      let p = and_then_parts _ _ ys (sym (c.from_more at count earlier) ∙ h) in
      let o = c.only at earlier p.0 p.1 in
      let r : at + c.size ≤ length bs = omega (arith, o.0.room, c.sized p.0) in
      let q = array_after count (at + c.size) (earlier ++ p.0 ∷ []) ys r p.2 in
      (p.0 ∷ q.0, q.1 ∙ append_assoc earlier (p.0 ∷ []) q.0, ap suc q.2, array_more at earlier p.0 q.0 o q.3)

  array_before : (xs : List X) (at : ℕ) (earlier : List X) → Array at earlier xs → c.from at (length xs) earlier ≡ Ok (earlier ++ xs)
  array_before [] at earlier a = c.from_none at earlier ∙ ap Ok (sym (append-nil earlier))
  array_before (x ∷ xs) at earlier a =
      let p = array_parts at earlier x xs a in
      c.from_more at (length xs) earlier
      ∙ and_then_from _ _ x _ (c.all at earlier x p.0 p.1) (array_before xs (at + c.size) (earlier ++ x ∷ []) p.2 ∙ ap Ok (append_assoc earlier (x ∷ []) xs))

  pub array_only : (count at : ℕ) (xs : List X) → at ≤ length bs → c.from at count [] ≡ Ok xs → (length xs ≡ count) × Array at [] xs
  array_only count at xs room h =
      let p = array_after count at [] xs room h in
      (ap length p.1 ∙ p.2, subst (Array at []) (sym p.1) p.3)

  pub array_all : (xs : List X) (at : ℕ) → Array at [] xs → c.from at (length xs) [] ≡ Ok xs
  array_all xs at a = array_before xs at [] a
