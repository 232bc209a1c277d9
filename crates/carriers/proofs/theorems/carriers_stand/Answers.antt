use Rattle.std.proofs.Common.{◌≡◌, ℕ, ◌+◌, ◌<◌, Bool, true, false, cond, eqb, List, [], ◌∷◌, ◌++◌, Some, None, Option, sym, refl, ap, ◌∙◌, subst, inl, inr, arith}
use Rattle.std.proofs.lemmas.Bool.{cases_Bool}
use Rattle.std.specs.List.{AllByRecursion}
use Rattle.carriers.specs.Meanings.{Held, Meaning, copies_but, copy_under, no_space, retired_or_same, sendable, with_copy}
use Rattle.carriers.specs.Runs.{Answer, Call, CarriersAgree, InOrder, Rising, Run, StaysInOrder, Step, done, fetched, fetches, more, numbered, puts, retired, retires}
use Rattle.carriers.proofs.theorems.carriers_stand.Goals as goal

step_agrees : {a b b' : Meaning} {c : Call} {x x' : Answer} → Step a c x b → Step a c x' b' → (x ≡ x') × (b ≡ b')
step_agrees (puts p) (puts q) = (ap numbered (p.answer ∙ sym q.answer), p.meaning ∙ sym q.meaning)
step_agrees (fetches p) (fetches q) = ((λ i. fetched ((p.answer ∙ sym q.answer) i) ((p.hand_is ∙ sym q.hand_is) i)), refl)
step_agrees (retires p) (retires q) = (ap retired (p.answer ∙ sym q.answer), p.meaning ∙ sym q.meaning)

runs_agree : {a b b' : Meaning} {cs : List Call} {xs xs' : List Answer} → Run a cs xs b → Run a cs xs' b' → (xs ≡ xs') × (b ≡ b')
runs_agree done done = (refl, refl)
runs_agree {b' = e} (more s r) (more {cs = ds} {xs = ys} t q) =
    let p = step_agrees s t in
    let u = runs_agree r (subst (λ m. Run m ds ys e) (sym p.1) q) in
    ((λ i. p.0 i ∷ u.0 i), u.1)

agree : CarriersAgree
agree a a' b b' cs xs xs' same r r' = runs_agree r (subst (λ m. Run m cs xs' b') (sym same) r')

below_more : (n m : ℕ) (hs : List Held) → n < m → AllByRecursion (λ h. h.0 < n) hs → AllByRecursion (λ h. h.0 < m) hs
below_more n m [] lt a = tt
below_more n m (h ∷ hs) lt a = (omega (arith, a.0), below_more n m hs lt a.1)

all_push : (P : Held → Type 0) (hs : List Held) (h : Held) → AllByRecursion P hs → P h → AllByRecursion P (hs ++ h ∷ [])
all_push P [] h a p = (p, tt)
all_push P (x ∷ xs) h a p = (a.0, all_push P xs h a.1 p)

rising_push : (hs : List Held) (n : ℕ) (hand : List ℕ) → Rising hs → AllByRecursion (λ h. h.0 < n) hs → Rising (hs ++ (n, hand) ∷ [])
rising_push [] n hand r a = (tt, tt)
rising_push (h ∷ hs) n hand r a = (all_push (λ k. h.0 < k.0) hs (n, hand) r.0 a.0, rising_push hs n hand r.1 a.1)

put_in_order : (c : Meaning) (hand : List ℕ) → InOrder c → InOrder (with_copy c hand)
put_in_order c hand o = (
  rising_push c.held c.next hand o.0 o.1,
  all_push (λ h. h.0 < c.next + 1) c.held (c.next, hand) (below_more c.next (c.next + 1) c.held (omega arith) o.1) (omega arith),
)

but_all : (P : Held → Type 0) (x : ℕ) (hs : List Held) → AllByRecursion P hs → AllByRecursion P (copies_but x hs)
unfolding copies_but
but_all P x [] a = tt
but_all P x (h ∷ hs) a = elim (cases_Bool (eqb h.0 x)) [
  | inl e ↦ rw e (but_all P x hs a.1)
  | inr e ↦ rw e (a.0, but_all P x hs a.1)
]

but_rising : (x : ℕ) (hs : List Held) → Rising hs → Rising (copies_but x hs)
unfolding copies_but
but_rising x [] r = tt
but_rising x (h ∷ hs) r = elim (cases_Bool (eqb h.0 x)) [
  | inl e ↦ rw e (but_rising x hs r.1)
  | inr e ↦ rw e (but_all (λ k. h.0 < k.0) x hs r.0, but_rising x hs r.1)
]

either : (b : Bool) (x y : Meaning) → InOrder x → InOrder y → InOrder (cond b x y)
either true x y p q = p
either false x y p q = q

retire_in_order : (o : Option (List ℕ)) (c : Meaning) (number : ℕ) → InOrder c → InOrder (retired_or_same o c number)
retire_in_order None c number i = i
retire_in_order (Some copy) c number i = (but_rising number c.held i.0, but_all (λ h. h.0 < c.next) number c.held i.1)

in_order : StaysInOrder
in_order c o = (
  (λ hand. either (sendable c hand) (cond (no_space c) c (with_copy c hand)) c (either (no_space c) c (with_copy c hand) o (put_in_order c hand o)) o),
  (λ number. retire_in_order (copy_under number c.held) c number o),
)

pub returns : goal.returns
returns c = record { agree = agree; order = in_order; worked = (refl, refl, refl, refl) }
