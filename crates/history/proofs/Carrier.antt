-- The copies that a carrier holds, by number. Assumes nothing.
use Rattle.std.proofs.Common.{◌≡◌, ℕ, ◌+◌, ◌<◌, ◌≤◌, cond, eqb, ◌≢◌, List, [], ◌∷◌, ◌++◌, Some, None, Option, sym, refl, ap, ◌∙◌, inl, inr, arith}
use Rattle.std.proofs.ByRecursion.{All-push, All-weaker}
use Rattle.std.proofs.lemmas.Bool.{cases_Bool, cond-true, cond-false, eq-eqb, ne_eqb, eqb-true}
use Rattle.std.specs.List.{AllByRecursion}
use Rattle.carriers.specs.Meanings.{Held, Meaning, copies_but, copy_under, with_copy, without_copy}

-- every number that is held is below next
abbrev pub Below : ℕ → List Held → Type 0
Below next held = AllByRecursion (λ h. h.0 < next) held

-- One more copy

pub under_push_other : (x y : ℕ) (copy : List ℕ) (held : List Held) → x ≢ y → copy_under x (held ++ (y, copy) ∷ []) ≡ copy_under x held
unfolding copy_under
under_push_other x y copy [] differ = cond-false _ _ _ (ne_eqb y x (λ e. differ (sym e)))
under_push_other x y copy (h ∷ hs) differ = ap (λ r. cond (eqb h.0 x) (Some h.1) r) (under_push_other x y copy hs differ)

pub under_push_same : (x : ℕ) (copy : List ℕ) (held : List Held) → copy_under x held ≡ None → copy_under x (held ++ (x, copy) ∷ []) ≡ Some copy
unfolding copy_under
under_push_same x copy [] none = cond-true _ _ _ (eq-eqb x x refl)
under_push_same x copy (h ∷ hs) none = elim (cases_Bool (eqb h.0 x)) [
  | inl e ↦ let no : ◌≡◌ {A = Option (List ℕ)} (Some h.1) None = sym (cond-true _ _ _ e) ∙ none in let z : ◌≡◌ {A = ℕ} 0 1 = cc no in absurd (omega arith)
  | inr e ↦ cond-false _ _ _ e ∙ under_push_same x copy hs (sym (cond-false _ _ _ e) ∙ none)
]

-- no copy has a number from next on
pub under_past : (next : ℕ) (held : List Held) → Below next held → (x : ℕ) → next ≤ x → copy_under x held ≡ None
unfolding copy_under
under_past next [] below x le = refl
under_past next (h ∷ hs) below x le = cond-false _ _ _ (ne_eqb h.0 x (λ e. omega (arith, e, below.0))) ∙ under_past next hs below.1 x le

-- One copy less

pub under_but_same : (x : ℕ) (held : List Held) → copy_under x (copies_but x held) ≡ None
unfolding copy_under copies_but
under_but_same x [] = refl
under_but_same x (h ∷ hs) = elim (cases_Bool (eqb h.0 x)) [
  | inl e ↦ ap (copy_under x) (cond-true _ _ _ e) ∙ under_but_same x hs
  | inr e ↦ ap (copy_under x) (cond-false _ _ _ e) ∙ cond-false _ _ _ e ∙ under_but_same x hs
]

pub under_but_other : (x y : ℕ) (held : List Held) → x ≢ y → copy_under x (copies_but y held) ≡ copy_under x held
unfolding copy_under copies_but
under_but_other x y [] differ = refl
under_but_other x y (h ∷ hs) differ = elim (cases_Bool (eqb h.0 y)) [
  | inl e ↦ ap (copy_under x) (cond-true _ _ _ e) ∙ under_but_other x y hs differ ∙ sym (cond-false _ _ _ (ne_eqb h.0 x (λ s. differ (sym s ∙ eqb-true _ _ e))))
  | inr e ↦ ap (copy_under x) (cond-false _ _ _ e) ∙ ap (λ r. cond (eqb h.0 x) (Some h.1) r) (under_but_other x y hs differ)
]

pub all_but : (P : Held → Type 0) (x : ℕ) (held : List Held) → AllByRecursion P held → AllByRecursion P (copies_but x held)
unfolding copies_but
all_but P x [] a = tt
all_but P x (h ∷ hs) a = elim (cases_Bool (eqb h.0 x)) [
  | inl e ↦ rw e (all_but P x hs a.1)
  | inr e ↦ rw e (a.0, all_but P x hs a.1)
]

-- what holds of every copy holds of the one under a number
pub all_under : (P : List ℕ → Type 0) (x : ℕ) (held : List Held) → AllByRecursion (λ h. P h.1) held → (copy : List ℕ) → copy_under x held ≡ Some copy → P copy
unfolding copy_under
all_under P x [] a copy found = let z : ◌≡◌ {A = ℕ} 0 1 = cc found in absurd (omega arith)
all_under P x (h ∷ hs) a copy found = elim (cases_Bool (eqb h.0 x)) [
  | inl e ↦ let same : ◌≡◌ {A = Option (List ℕ)} (Some h.1) (Some copy) = sym (cond-true _ _ _ e) ∙ found in let is : h.1 ≡ copy = cc same in rw is at a.0
  | inr e ↦ all_under P x hs a.1 copy (sym (cond-false _ _ _ e) ∙ found)
]

-- The carrier after a send and after a retire

module _ (c : Meaning) (below : Below c.next c.held) where
  pub with_below : (copy : List ℕ) → Below (with_copy c copy).next (with_copy c copy).held
  with_below copy =
      All-push (λ h. h.0 < c.next + 1) c.held (c.next, copy)
      (All-weaker (λ h. h.0 < c.next) (λ h. h.0 < c.next + 1) (λ h lt. omega arith) c.held below)
      (omega arith)

  pub without_below : (x : ℕ) → Below (without_copy c x).next (without_copy c x).held
  without_below x = all_but (λ h. h.0 < c.next) x c.held below

  pub with_next : (copy : List ℕ) → copy_under c.next (with_copy c copy).held ≡ Some copy
  with_next copy = under_push_same c.next copy c.held (under_past c.next c.held below c.next (omega arith))

  pub with_other : (copy : List ℕ) (x : ℕ) → x ≢ c.next → copy_under x (with_copy c copy).held ≡ copy_under x c.held
  with_other copy x differ = under_push_other x c.next copy c.held differ
