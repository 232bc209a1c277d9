-- The copies held in places, under a put, a fetch and a retire. Assumes nothing.
use Rattle.std.proofs.Common.{◌≡◌, ℕ, zero, suc, ◌+◌, ◌-◌, ◌<◌, ◌≤◌, Bool, true, false, cond, eqb, ltb, List, [], ◌∷◌, ◌++◌, length, Some, None, Option, not, sym, refl, ap, ◌∙◌, inl, inr, arith, length-append}
use Rattle.std.proofs.lemmas.Bool.{cases_Bool, cases_eq, cases_lt, cond-true, cond-false, eq-eqb, ne_eqb, eqb-true, eqb-false, ltb-true, ltb-false, lt-ltb, le-ltb}
use Rattle.std.specs.List.{AllByRecursion, filter, range_with_len}
use Rattle.std.specs.Option.{MatchOption}
use Rattle.carriers.specs.Meanings.{Held, copy_under, copies_but}
use Rattle.carriers.specs.Stores.{Others}
use Rattle.carriers.specs.Places.{inserted_by_number, with_place, held_below, used_below, or_this, lowest_below, Numbered, Distinct}

-- One copy inserted

under_same : (x : ℕ) (c : List ℕ) (hs : List Held) → copy_under x (inserted_by_number (x, c) hs) ≡ Some c
unfolding copy_under inserted_by_number
under_same x c [] = cond-true _ _ _ (eq-eqb x x refl)
under_same x c (h ∷ hs) = elim (cases_Bool (ltb h.0 x)) [
  | inl e ↦ rw e (cond-false _ _ _ (ne_eqb h.0 x (λ s. omega (arith, ltb-true _ _ e))) ∙ under_same x c hs)
  | inr e ↦ rw e (cond-true _ _ _ (eq-eqb x x refl))
]

under_other : (x z : ℕ) (c : List ℕ) (hs : List Held) → (z ≡ x → ⊥) → copy_under x (inserted_by_number (z, c) hs) ≡ copy_under x hs
unfolding copy_under inserted_by_number
under_other x z c [] ne = cond-false _ _ _ (ne_eqb z x ne)
under_other x z c (h ∷ hs) ne = elim (cases_Bool (ltb h.0 z)) [
  | inl e ↦ rw e (ap (λ r. cond (eqb h.0 x) (Some h.1) r) (under_other x z c hs ne))
  | inr e ↦ rw e (cond-false _ _ _ (ne_eqb z x ne))
]

length_inserted : (h : Held) (hs : List Held) → length (inserted_by_number h hs) ≡ length hs + 1
unfolding inserted_by_number
length_inserted h [] = omega arith
length_inserted h (x ∷ xs) = elim (cases_Bool (ltb x.0 h.0)) [
  | inl e ↦ rw e (omega (arith, length_inserted h xs))
  | inr e ↦ rw e (omega arith)
]

inserted_all : (P : Held → Type 0) (h : Held) (hs : List Held) → P h → AllByRecursion P hs → AllByRecursion P (inserted_by_number h hs)
unfolding inserted_by_number
inserted_all P h [] p a = (p, tt)
inserted_all P h (x ∷ xs) p a = elim (cases_Bool (ltb x.0 h.0)) [
  | inl e ↦ rw e (a.0, inserted_all P h xs p a.1)
  | inr e ↦ rw e (p, a)
]

inserted_last : (z : ℕ) (c : List ℕ) (hs : List Held) → AllByRecursion (λ h. h.0 < z) hs → inserted_by_number (z, c) hs ≡ hs ++ (z, c) ∷ []
unfolding inserted_by_number
inserted_last z c [] a = refl
inserted_last z c (x ∷ xs) a = cond-true _ _ _ (lt-ltb x.0 z a.0) ∙ ap (λ r. x ∷ r) (inserted_last z c xs a.1)

inserted_first : (z : ℕ) (c : List ℕ) (hs : List Held) → AllByRecursion (λ h. z ≤ h.0) hs → inserted_by_number (z, c) hs ≡ (z, c) ∷ hs
unfolding inserted_by_number
inserted_first z c [] a = refl
inserted_first z c (x ∷ xs) a = cond-false _ _ _ (le-ltb x.0 z a.0)

inserted_push : (y z : ℕ) (c d : List ℕ) (hs : List Held) → y < z → inserted_by_number (y, c) (hs ++ (z, d) ∷ []) ≡ inserted_by_number (y, c) hs ++ (z, d) ∷ []
unfolding inserted_by_number
inserted_push y z c d [] lt = cond-false _ _ _ (le-ltb z y (omega arith))
inserted_push y z c d (x ∷ xs) lt = elim (cases_Bool (ltb x.0 y)) [
  | inl e ↦ rw e (ap (λ r. x ∷ r) (inserted_push y z c d xs lt))
  | inr e ↦ rw e
]

-- the numbers do not fall
Ordered : List Held → Type 0
Ordered [] = Unit {0}
Ordered (h ∷ hs) = AllByRecursion (λ k. h.0 ≤ k.0) hs × Ordered hs

at_least : (y z : ℕ) (hs : List Held) → z ≤ y → AllByRecursion (λ h. y ≤ h.0) hs → AllByRecursion (λ h. z ≤ h.0) hs
at_least y z [] le a = tt
at_least y z (h ∷ hs) le a = (omega (arith, a.0), at_least y z hs le a.1)

inserted_ordered : (h : Held) (hs : List Held) → Ordered hs → Ordered (inserted_by_number h hs)
unfolding inserted_by_number Ordered
inserted_ordered h [] o = (tt, tt)
inserted_ordered h (x ∷ xs) o = elim (cases_Bool (ltb x.0 h.0)) [
  | inl e ↦ let le : x.0 ≤ h.0 = omega (arith, ltb-true _ _ e) in rw e (inserted_all (λ k. x.0 ≤ k.0) h xs le o.0, inserted_ordered h xs o.1)
  | inr e ↦ let le : h.0 ≤ x.0 = ltb-false _ _ e in rw e ((le, at_least x.0 h.0 xs le o.0), o)
]

but_all : (P : Held → Type 0) (x : ℕ) (hs : List Held) → AllByRecursion P hs → AllByRecursion P (copies_but x hs)
unfolding copies_but
but_all P x [] a = tt
but_all P x (h ∷ hs) a = elim (cases_Bool (eqb h.0 x)) [
  | inl e ↦ rw e (but_all P x hs a.1)
  | inr e ↦ rw e (a.0, but_all P x hs a.1)
]

but_same : (x : ℕ) (c : List ℕ) (hs : List Held) → copies_but x (inserted_by_number (x, c) hs) ≡ copies_but x hs
unfolding copies_but inserted_by_number
but_same x c [] = cond-true _ _ _ (eq-eqb x x refl)
but_same x c (h ∷ hs) = elim (cases_Bool (ltb h.0 x)) [
  | inl e ↦ rw e (ap (λ r. cond (eqb h.0 x) r (h ∷ r)) (but_same x c hs))
  | inr e ↦ rw e (cond-true _ _ _ (eq-eqb x x refl))
]

but_other : (x z : ℕ) (c : List ℕ) (hs : List Held) → (z ≡ x → ⊥) → Ordered hs → copies_but x (inserted_by_number (z, c) hs) ≡ inserted_by_number (z, c) (copies_but x hs)
unfolding copies_but inserted_by_number Ordered
but_other x z c [] ne o = cond-false _ _ _ (ne_eqb z x ne)
but_other x z c (h ∷ hs) ne o = elim (cases_Bool (ltb h.0 z)) [
  | inl e ↦ elim (cases_Bool (eqb h.0 x)) [
    | inl f ↦ rw (e, f) (but_other x z c hs ne o.1)
    | inr f ↦ rw (e, f, e) (ap (λ r. h ∷ r) (but_other x z c hs ne o.1))
  ]
  | inr e ↦
      let le : z ≤ h.0 = ltb-false _ _ e in
      let all : AllByRecursion (λ k. z ≤ k.0) (copies_but x (h ∷ hs)) = but_all (λ k. z ≤ k.0) x (h ∷ hs) (le, at_least h.0 z hs le o.0) in
      rw e (cond-false _ _ _ (ne_eqb z x ne) ∙ sym (inserted_first z c (copies_but x (h ∷ hs)) all))
]

-- The lowest place with a flag

pub lowest_some : (flag : ℕ → ℕ) (w k p : ℕ) → lowest_below flag w k ≡ Some p → (p < k) × (flag p ≡ w)
unfolding lowest_below
lowest_some flag w zero p h = let z : ◌≡◌ {A = ℕ} 0 1 = cc in absurd (omega arith)
lowest_some flag w (suc k) p h = go (lowest_some flag w k p) (lowest_below flag w k) (eqb (flag k) w) refl refl h
  where
    go : (lowest_below flag w k ≡ Some p → (p < k) × (flag p ≡ w)) → (o : Option ℕ) (b : Bool) → lowest_below flag w k ≡ o → eqb (flag k) w ≡ b → or_this o b k ≡ Some p → (p < suc k) × (flag p ≡ w)
    go before (Some q) b e f g = let i = before (e ∙ g) in (omega (arith, i.0), i.1)
    go before None true e f g = let s : k ≡ p = cc in (omega arith, ap flag (sym s) ∙ eqb-true _ _ f)
    go before None false e f g = let z : ◌≡◌ {A = ℕ} 0 1 = cc in absurd (omega arith)

pub lowest_none : (flag : ℕ → ℕ) (w k : ℕ) → lowest_below flag w k ≡ None → (j : ℕ) → j < k → flag j ≡ w → ⊥
unfolding lowest_below
lowest_none flag w zero h j lt s = omega arith
lowest_none flag w (suc k) h j lt s = go (lowest_none flag w k) (lowest_below flag w k) (eqb (flag k) w) refl refl h
  where
    go : (lowest_below flag w k ≡ None → (i : ℕ) → i < k → flag i ≡ w → ⊥) → (o : Option ℕ) (b : Bool) → lowest_below flag w k ≡ o → eqb (flag k) w ≡ b → or_this o b k ≡ None → ⊥
    go before (Some q) b e f g = let z : ◌≡◌ {A = ℕ} 0 1 = cc in omega arith
    go before None true e f g = let z : ◌≡◌ {A = ℕ} 0 1 = cc in omega arith
    go before None false e f g = elim (cases_eq j k) [
      | inl i ↦ eqb-false _ _ f (ap flag (sym i) ∙ s)
      | inr i ↦ before e j (omega arith) s
    ]

-- no place has it
lowest_absent : (flag : ℕ → ℕ) (w k : ℕ) → ((j : ℕ) → j < k → flag j ≡ w → ⊥) → lowest_below flag w k ≡ None
unfolding lowest_below
lowest_absent flag w zero all = refl
lowest_absent flag w (suc k) all = ap (λ o. or_this o (eqb (flag k) w) k) (lowest_absent flag w k (λ j lt. all j (omega arith))) ∙ cond-false _ _ _ (ne_eqb (flag k) w (all k (omega arith)))

-- the first that has it is the lowest, whatever follows
lowest_found : (flag : ℕ → ℕ) (w k c : ℕ) → lowest_below flag w k ≡ None → flag k ≡ w → k < c → lowest_below flag w c ≡ Some k
unfolding lowest_below
lowest_found flag w k zero e f lt = let z : ⊥ = omega arith in elim z [ ]
lowest_found flag w k (suc c) e f lt = elim (cases_eq k c) [
  | inl i ↦ ap (λ o. or_this o (eqb (flag c) w) c) (ap (lowest_below flag w) (sym i) ∙ e) ∙ cond-true _ _ _ (eq-eqb (flag c) w (ap flag (sym i) ∙ f)) ∙ ap Some (sym i)
  | inr i ↦ ap (λ o. or_this o (eqb (flag c) w) c) (lowest_found flag w k c e f (omega arith))
]

-- what a search from the first place on finds
pub lowest_first : (flag : ℕ → ℕ) (w k : ℕ) (r : Option ℕ) → MatchOption r ((j : ℕ) → 0 ≤ j → j < k → flag j ≡ w → ⊥) (λ i. (0 ≤ i) × (i < k) × (flag i ≡ w) × ((j : ℕ) → 0 ≤ j → j < i → flag j ≡ w → ⊥)) → r ≡ lowest_below flag w k
lowest_first flag w k None all = sym (lowest_absent flag w k (λ j lt. all j (omega arith) lt))
lowest_first flag w k (Some i) h = sym (lowest_found flag w i k (lowest_absent flag w i (λ j lt. h.3 j (omega arith) lt)) h.2 h.1)

-- All places

pub held_length : (flag : ℕ → ℕ) (copy : ℕ → List ℕ) (k : ℕ) → length (held_below flag copy k) ≡ used_below flag k
unfolding held_below used_below
held_length flag copy zero = refl
held_length flag copy (suc k) = elim (cases_Bool (eqb (flag k) 0)) [
  | inl e ↦ rw e (held_length flag copy k)
  | inr e ↦ rw e (length_inserted _ _ ∙ ap (λ u. u + 1) (held_length flag copy k))
]

pub used_most : (flag : ℕ → ℕ) (k : ℕ) → used_below flag k ≤ k
unfolding used_below
used_most flag zero = omega arith
used_most flag (suc k) = elim (cases_Bool (eqb (flag k) 0)) [
  | inl e ↦ rw e (omega (arith, used_most flag k))
  | inr e ↦ rw e (omega (arith, used_most flag k))
]

pub used_full : (flag : ℕ → ℕ) (k : ℕ) → ((j : ℕ) → j < k → flag j ≡ 0 → ⊥) → used_below flag k ≡ k
unfolding used_below
used_full flag zero all = refl
used_full flag (suc k) all = cond-false _ _ _ (ne_eqb (flag k) 0 (all k (omega arith))) ∙ (let i = used_full flag k (λ j lt. all j (omega arith)) in omega arith)

pub used_free : (flag : ℕ → ℕ) (k p : ℕ) → p < k → flag p ≡ 0 → used_below flag k < k
unfolding used_below
used_free flag zero p lt f = let z : ⊥ = omega arith in elim z [ ]
used_free flag (suc k) p lt f = elim (cases_Bool (eqb (flag k) 0)) [
  | inl e ↦ rw e (omega (arith, used_most flag k))
  | inr e ↦ rw e (let ne : p ≡ k → ⊥ = λ s. eqb-false _ _ e (ap flag (sym s) ∙ f) in elim (cases_eq p k) [
    | inl s ↦ let z : ⊥ = ne s in elim z [ ]
    | inr s ↦ omega (arith, used_free flag k p (omega arith) f)
  ])
]

-- the places that a filter passes
filter_more : (test : ℕ → Bool) (a n j : ℕ) → a + n ≡ j → filter test (range_with_len a (suc n)) ≡ filter test (range_with_len a n) ++ cond (test j) (j ∷ []) []
filter_more test a zero j e = let same : a ≡ j = omega arith in ap (λ i. cond (test i) (i ∷ []) []) same
filter_more test a (suc n) j e =
    let rest = filter_more test (a + 1) n j (omega arith) in
    elim (cases_Bool (test a)) [ inl t ↦ rw t (ap (λ r. a ∷ r) rest) | inr f ↦ rw f rest ]

pub used_count : (flag : ℕ → ℕ) (k : ℕ) → length (filter (λ j. not (eqb (flag j) 0)) (range_with_len 0 k)) ≡ used_below flag k
unfolding used_below
used_count flag zero = refl
used_count flag (suc k) =
    let test : ℕ → Bool = λ j. not (eqb (flag j) 0) in
    ap length (filter_more test 0 k k (omega arith))
    ∙ length-append (filter test (range_with_len 0 k)) (cond (test k) (k ∷ []) [])
    ∙ elim (cases_Bool (eqb (flag k) 0)) [
      | inl e ↦ rw e (omega (arith, used_count flag k))
      | inr e ↦ rw e (omega (arith, used_count flag k))
    ]

held_ordered : (flag : ℕ → ℕ) (copy : ℕ → List ℕ) (k : ℕ) → Ordered (held_below flag copy k)
unfolding held_below Ordered
held_ordered flag copy zero = tt
held_ordered flag copy (suc k) = elim (cases_Bool (eqb (flag k) 0)) [
  | inl e ↦ rw e (held_ordered flag copy k)
  | inr e ↦ rw e (inserted_ordered _ _ (held_ordered flag copy k))
]

held_numbered : (flag : ℕ → ℕ) (copy : ℕ → List ℕ) (k next : ℕ) → Numbered flag k next → AllByRecursion (λ h. h.0 < next) (held_below flag copy k)
unfolding held_below
held_numbered flag copy zero next n = tt
held_numbered flag copy (suc k) next n = elim (cases_Bool (eqb (flag k) 0)) [
  | inl e ↦ rw e (held_numbered flag copy k next (λ j lt. n j (omega arith)))
  | inr e ↦
      let ne : flag k ≡ 0 → ⊥ = eqb-false _ _ e in
      let le : flag k ≤ next = n k (omega arith) in
      let lt : flag k - 1 < next = below (flag k) ne le in
      rw e (inserted_all (λ h. h.0 < next) _ _ lt (held_numbered flag copy k next (λ j lt'. n j (omega arith))))
]
  where
    below : (f : ℕ) → (f ≡ 0 → ⊥) → f ≤ next → f - 1 < next
    below zero ne le = absurd (ne refl)
    below (suc f) ne le = omega arith

-- A copy put into a free place

with_same : (f g : ℕ) (c d : List ℕ) (hs : List Held) → f ≡ g → c ≡ d → with_place f c hs ≡ with_place g d hs
with_same f g c d hs e h = (λ i. with_place (e i) (h i) hs)

with_free : (f : ℕ) (c : List ℕ) (hs : List Held) → f ≡ 0 → with_place f c hs ≡ hs
with_free f c hs e = cond-true _ _ _ (eq-eqb f 0 e)

with_number : (f x : ℕ) (c : List ℕ) (hs : List Held) → f ≡ x + 1 → with_place f c hs ≡ inserted_by_number (x, c) hs
with_number f x c hs e =
    let ne : f ≡ 0 → ⊥ = λ z. omega arith in
    let s : f - 1 ≡ x = omega arith in
    cond-false _ _ _ (ne_eqb f 0 ne) ∙ ap (λ y. inserted_by_number (y, c) hs) s

with_push : (f z : ℕ) (c d : List ℕ) (hs : List Held) → f ≤ z → with_place f c (hs ++ (z, d) ∷ []) ≡ with_place f c hs ++ (z, d) ∷ []
with_push zero z c d hs le = refl
with_push (suc f) z c d hs le =
    let s : suc f ≡ f + 1 = omega arith in
    with_number (suc f) f c (hs ++ (z, d) ∷ []) s ∙ inserted_push f z c d hs (omega arith) ∙ ap (λ r. r ++ (z, d) ∷ []) (sym (with_number (suc f) f c hs s))

module _ (flag flag' : ℕ → ℕ) (copy copy' : ℕ → List ℕ) (c p : ℕ) (others : Others flag flag' copy copy' c p) where
  held_before : (k : ℕ) → k ≤ p → k ≤ c → held_below flag' copy' k ≡ held_below flag copy k
  unfolding held_below
  held_before zero le in_range = refl
  held_before (suc k) le in_range =
      let o = others k (omega arith) (λ s. omega arith) in
      with_same _ _ _ _ _ o.0 o.1 ∙ ap (with_place (flag k) (copy k)) (held_before k (omega arith) (omega arith))

  held_put_after : (next : ℕ) (hand : List ℕ) → p < c → Numbered flag c next → flag p ≡ 0 → flag' p ≡ next + 1 → copy' p ≡ hand → (k : ℕ) → p < k → k ≤ c → held_below flag' copy' k ≡ held_below flag copy k ++ (next, hand) ∷ []
  unfolding held_below
  held_put_after next hand lt numbered free flagged copied zero past in_range = let z : ⊥ = omega arith in elim z [ ]
  held_put_after next hand lt numbered free flagged copied (suc k) past in_range = elim (cases_eq k p) [
    | inl e ↦
        let f' : flag' k ≡ next + 1 = ap flag' e ∙ flagged in
        let f : flag k ≡ 0 = ap flag e ∙ free in
        with_number _ next (copy' k) _ f'
        ∙ (λ i. inserted_by_number (next, (ap copy' e ∙ copied) i) (held_before k (omega arith) (omega arith) i))
        ∙ inserted_last next hand _ (held_numbered flag copy k next (λ j l. numbered j (omega arith)))
        ∙ ap (λ r. r ++ (next, hand) ∷ []) (sym (with_free _ (copy k) _ f))
    | inr e ↦
        let o = others k (omega arith) e in
        with_same _ _ _ _ _ o.0 o.1
        ∙ ap (with_place (flag k) (copy k)) (held_put_after next hand lt numbered free flagged copied k (omega arith) (omega arith))
        ∙ with_push _ next (copy k) hand _ (numbered k (omega arith))
  ]

  -- a put adds its copy at the end
  pub held_put : (next : ℕ) (hand : List ℕ) → p < c → Numbered flag c next → flag p ≡ 0 → flag' p ≡ next + 1 → copy' p ≡ hand → held_below flag' copy' c ≡ held_below flag copy c ++ (next, hand) ∷ []
  held_put next hand lt numbered free flagged copied = held_put_after next hand lt numbered free flagged copied c lt (omega arith)

  pub numbered_put : (next : ℕ) → Numbered flag c next → flag' p ≡ next + 1 → Numbered flag' c (next + 1)
  numbered_put next numbered flagged k lt = elim (cases_eq k p) [
    | inl e ↦ let f : flag' k ≡ next + 1 = ap flag' e ∙ flagged in omega arith
    | inr e ↦ let o = others k lt e in omega (arith, o.0, numbered k lt)
  ]

  pub distinct_put : (next : ℕ) → Numbered flag c next → Distinct flag c → flag' p ≡ next + 1 → Distinct flag' c
  distinct_put next numbered distinct flagged i j h = elim (cases_eq i p) [
    | inl e ↦
        let f : flag' i ≡ next + 1 = ap flag' e ∙ flagged in
        let o = others j h.1 (λ s. omega (arith, h.0)) in
        let z : ⊥ = omega (arith, o.0, numbered j h.1, h.2) in elim z [ ]
    | inr e ↦ elim (cases_eq j p) [
      | inl d ↦
          let f : flag' j ≡ next + 1 = ap flag' d ∙ flagged in
          let o = others i (omega (arith, h.0, h.1)) e in
          let z : ⊥ = omega (arith, o.0, numbered i (omega (arith, h.0, h.1)), h.2) in elim z [ ]
      | inr d ↦
          let a = others i (omega (arith, h.0, h.1)) e in
          let b = others j h.1 d in
          a.0 ∙ distinct i j (h.0, h.1, sym a.0 ∙ h.2 ∙ b.0)
    ]
  ]

  -- A copy that is retired

  apart : (x k : ℕ) → Distinct flag c → p < c → flag p ≡ x + 1 → k < c → (k ≡ p → ⊥) → flag k ≡ x + 1 → ⊥
  apart x k distinct lt f in_range ne g = elim (cases_lt k p) [
    | inl l ↦ let z = distinct k p (l, lt, g ∙ sym f) in omega arith
    | inr l ↦ let z = distinct p k (omega arith, in_range, f ∙ sym g) in omega arith
  ]

  with_but : (f x : ℕ) (d : List ℕ) (hs : List Held) → (f ≡ x + 1 → ⊥) → Ordered hs → with_place f d (copies_but x hs) ≡ copies_but x (with_place f d hs)
  with_but zero x d hs ne o = refl
  with_but (suc f) x d hs ne o =
      let s : suc f ≡ f + 1 = omega arith in
      let ne' : f ≡ x → ⊥ = λ e. ne (omega arith) in
      with_number (suc f) f d (copies_but x hs) s ∙ sym (but_other x f d hs ne' o) ∙ ap (copies_but x) (sym (with_number (suc f) f d hs s))

  held_retire_below : (x : ℕ) → p < c → Distinct flag c → flag p ≡ x + 1 → flag' p ≡ 0 → (k : ℕ) → k ≤ c → held_below flag' copy' k ≡ copies_but x (held_below flag copy k)
  unfolding held_below copies_but
  held_retire_below x lt distinct f f' zero in_range = refl
  held_retire_below x lt distinct f f' (suc k) in_range = elim (cases_eq k p) [
    | inl e ↦
        with_free _ (copy' k) _ (ap flag' e ∙ f')
        ∙ held_retire_below x lt distinct f f' k (omega arith)
        ∙ sym (but_same x (copy k) _)
        ∙ ap (copies_but x) (sym (with_number _ x (copy k) _ (ap flag e ∙ f)))
    | inr e ↦
        let o = others k (omega arith) e in
        with_same _ _ _ _ _ o.0 o.1
        ∙ ap (with_place (flag k) (copy k)) (held_retire_below x lt distinct f f' k (omega arith))
        ∙ with_but (flag k) x (copy k) _ (apart x k distinct lt f (omega arith) e) (held_ordered flag copy k)
  ]

  -- a retire leaves the other copies
  pub held_retire : (x : ℕ) → p < c → Distinct flag c → flag p ≡ x + 1 → flag' p ≡ 0 → held_below flag' copy' c ≡ copies_but x (held_below flag copy c)
  held_retire x lt distinct f f' = held_retire_below x lt distinct f f' c (omega arith)

  pub numbered_retire : (next : ℕ) → Numbered flag c next → flag' p ≡ 0 → Numbered flag' c next
  numbered_retire next numbered f' k lt = elim (cases_eq k p) [
    | inl e ↦ let f : flag' k ≡ 0 = ap flag' e ∙ f' in omega arith
    | inr e ↦ let o = others k lt e in omega (arith, o.0, numbered k lt)
  ]

  pub distinct_retire : Distinct flag c → flag' p ≡ 0 → Distinct flag' c
  distinct_retire distinct f' i j h = elim (cases_eq i p) [
    | inl e ↦ ap flag' e ∙ f'
    | inr e ↦ elim (cases_eq j p) [
      | inl d ↦ h.2 ∙ ap flag' d ∙ f'
      | inr d ↦
          let a = others i (omega (arith, h.0, h.1)) e in
          let b = others j h.1 d in
          a.0 ∙ distinct i j (h.0, h.1, sym a.0 ∙ h.2 ∙ b.0)
    ]
  ]

-- A copy that is looked for

module _ (flag : ℕ → ℕ) (copy : ℕ → List ℕ) (x : ℕ) where
  with_under_other : (f : ℕ) (d : List ℕ) (hs : List Held) → (f ≡ x + 1 → ⊥) → copy_under x (with_place f d hs) ≡ copy_under x hs
  with_under_other zero d hs ne = refl
  with_under_other (suc f) d hs ne =
      let s : suc f ≡ f + 1 = omega arith in
      let ne' : f ≡ x → ⊥ = λ e. ne (omega arith) in
      ap (copy_under x) (with_number (suc f) f d hs s) ∙ under_other x f d hs ne'

  pub under_absent : (c : ℕ) → ((k : ℕ) → k < c → flag k ≡ x + 1 → ⊥) → copy_under x (held_below flag copy c) ≡ None
  unfolding held_below copy_under
  under_absent zero none = refl
  under_absent (suc c) none = with_under_other (flag c) (copy c) _ (none c (omega arith)) ∙ under_absent c (λ k lt. none k (omega arith))

  under_place_below : (c p : ℕ) → Distinct flag c → p < c → flag p ≡ x + 1 → copy_under x (held_below flag copy c) ≡ Some (copy p)
  unfolding held_below
  under_place_below zero p distinct lt f = let z : ⊥ = omega arith in elim z [ ]
  under_place_below (suc c) p distinct lt f = elim (cases_eq c p) [
    | inl e ↦ ap (copy_under x) (with_number _ x (copy c) _ (ap flag e ∙ f)) ∙ under_same x (copy c) _ ∙ ap (λ k. Some (copy k)) e
    | inr e ↦
        let ne : flag c ≡ x + 1 → ⊥ = λ g. (let z = distinct p c (omega arith, omega arith, f ∙ sym g) in omega arith) in
        with_under_other (flag c) (copy c) _ ne ∙ under_place_below c p (λ i j h. distinct i j (h.0, omega (arith, h.1), h.2)) (omega arith) f
  ]

  -- it is the copy at the place with its flag
  pub under_place : (c p : ℕ) → Distinct flag c → p < c → flag p ≡ x + 1 → copy_under x (held_below flag copy c) ≡ Some (copy p)
  under_place c p distinct lt f = under_place_below c p distinct lt f

-- a number that was not given out has no place
pub lowest_unused : (flag : ℕ → ℕ) (x next k : ℕ) → Numbered flag k next → next ≤ x → lowest_below flag (x + 1) k ≡ None
lowest_unused flag x next k numbered le = lowest_absent flag (x + 1) k (λ j lt e. omega (arith, numbered j lt))
