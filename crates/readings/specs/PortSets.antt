-- Words as port sets: a word below 2 ^ k is settled by its ports below k, and the bit operations act on each port by itself. Assumes nothing.
use Rattle.std.specs.Prelude.{◌≡◌, ℕ, zero, suc, ◌+◌, ◌-◌, ◌*◌, ◌/◌, ◌%◌, ◌^◌, ◌<◌, Bool, true, false, cond, not, ◌&&◌, ◌||◌, ◌⊎◌, ◌↔◌, ◌==◌, ◌≢◌, bit_and, bit_or, nat_eq, refl}
use Rattle.std.proofs.Common.{pow-suc, not-suc-le-zero, arith, inl, inr, sym, ◌∙◌}
use Rattle.std.proofs.lemmas.Nat.{and_comm, and_mod, and_shr, or_lt, or_mod, or_shr}
use Rattle.std.specs.Int.Bits.{and_lt}
use Rattle.std.specs.Bool.{beq}
use Rattle.std.proofs.Math.Logic.Iff as Iff
use Rattle.std.proofs.Math.Path.{ap}
use Rattle.std.proofs.lemmas.Bool.{and_from, and_parts, both_ways, cases_eq, eq-eqb, eqb-true, or_cases, or_left, or_right}
use Rattle.readings.specs.Ports.{port_count, has, collect, all_below, held_ports, word_ports, union, without, subset, same_ports, PortsAreSets}
use Rattle.readings.specs.declared.ports.Ports.{Ports}

-- ---- tests

same_truth : (x y : Bool) → (x ≡ true → y ≡ true) → (y ≡ true → x ≡ true) → x ≡ y
same_truth true y f g = sym (f refl)
same_truth false true f g = g refl
same_truth false false f g = refl

implies : (x y : Bool) → ((not x || y) ≡ true) ↔ (x ≡ true → y ≡ true)
implies true y = (λ e t. e, λ f. f refl)
implies false y = (λ e t. absurd (both_ways false refl t), λ f. refl)

equals : (x y : Bool) → (beq x y ≡ true) ↔ (x ≡ y)
equals true true = (λ e. refl, λ e. refl)
equals true false = (λ e. absurd (both_ways false refl e), λ e. sym e)
equals false true = (λ e. absurd (both_ways false refl e), λ e. e)
equals false false = (λ e. refl, λ e. refl)

absorbed : (x y : Bool) → (x ≡ true → y ≡ true) → (x && y) ≡ x
absorbed true y f = f refl
absorbed false y f = refl

differs : (x y : Bool) → ((x && not y) ≡ true) ↔ ((x ≡ true) × (y ≢ true))
differs true true = (λ e. absurd (both_ways false refl e), λ m. absurd (m.1 refl))
differs true false = (λ e. (refl, both_ways false refl), λ m. refl)
differs false y = (λ e. absurd (both_ways false refl e), λ m. m.0)

same_iff : {x y : Bool} → x ≡ y → (x ≡ true) ↔ (y ≡ true)
same_iff e = (λ t. sym e ∙ t, λ t. e ∙ t)

either : (x y : Bool) → ((x || y) ≡ true) ↔ ((x ≡ true) ⊎ (y ≡ true))
either x y = (or_cases x y, λ m. elim m [ inl e ↦ or_left x y e | inr e ↦ or_right x y e ])

-- ---- every port below k

all_true : (k : ℕ) (f : ℕ → Bool) → all_below k f ≡ true → (p : ℕ) → p < k → f p ≡ true
unfolding all_below
all_true zero f e p h = absurd (not-suc-le-zero h)
all_true (suc k) f e p h =
    let both = and_parts (f k) (all_below k f) e in
    elim (cases_eq p k) [ inl q ↦ ap f q ∙ both.0 | inr n ↦ all_true k f both.1 p (omega arith) ]

true_all : (k : ℕ) (f : ℕ → Bool) → ((p : ℕ) → p < k → f p ≡ true) → all_below k f ≡ true
unfolding all_below
true_all zero f h = refl
true_all (suc k) f h = and_from (f k) (all_below k f) (h k (omega arith)) (true_all k f (λ p l. h p (omega arith)))

-- ---- a word and its ports

-- a binary digit is 1 or 0 by its test
digit : (x : ℕ) → x < 2 → x ≡ cond (x == 1) 1 0
digit zero h = refl
digit (suc zero) h = refl
digit (suc (suc x)) h = omega arith

-- a word below 2 ^ k is the collection of its ports
pub collected : (k w : ℕ) (f : ℕ → Bool) → w < 2 ^ k → ((p : ℕ) → p < k → has w p ≡ f p) → w ≡ collect k f
unfolding has collect
collected zero w f h e = omega arith
collected (suc k) w f h e =
    let low : w % 2 ≡ cond (f 0) 1 0 = digit (w % 2) (omega arith) ∙ ap (λ (b : Bool). cond b 1 0) (e 0 (omega arith)) in
    let high : w / 2 ≡ collect k (λ p. f (suc p)) = collected k (w / 2) (λ p. f (suc p)) (omega (arith, pow-suc 2 k)) (λ p l. e (suc p) (omega arith)) in
    omega arith

-- the lowest port of a collection, and the others
first : (b : Bool) (n : ℕ) → ((cond b 1 0 + 2 * n) % 2 == 1) ≡ b
first true n = let e : (1 + 2 * n) % 2 ≡ 1 = omega arith in ap (λ (x : ℕ). nat_eq x 1) e
first false n = let e : (0 + 2 * n) % 2 ≡ 0 = omega arith in ap (λ (x : ℕ). nat_eq x 1) e

others : (b : Bool) (n : ℕ) → (cond b 1 0 + 2 * n) / 2 ≡ n
others true n = omega arith
others false n = omega arith

pub collect_lt : (k : ℕ) (f : ℕ → Bool) → collect k f < 2 ^ k
unfolding collect
collect_lt zero f = omega arith
collect_lt (suc k) f =
    omega (arith, others (f 0) (collect k (λ p. f (suc p))), collect_lt k (λ p. f (suc p)), pow-suc 2 k)

-- the ports of a collection are those that f picks
pub has_collect : (k : ℕ) (f : ℕ → Bool) (p : ℕ) → p < k → has (collect k f) p ≡ f p
unfolding has collect
has_collect zero f p h = absurd (not-suc-le-zero h)
has_collect (suc k) f zero h = first (f 0) (collect k (λ p. f (suc p)))
has_collect (suc k) f (suc p) h =
    ap (λ (x : ℕ). has x p) (others (f 0) (collect k (λ p. f (suc p)))) ∙ has_collect k (λ p. f (suc p)) p (omega arith)

-- two words with the same ports are one
pub same_words : (k a b : ℕ) → a < 2 ^ k → b < 2 ^ k → ((p : ℕ) → p < k → has a p ≡ has b p) → a ≡ b
same_words k a b ha hb e = collected k a (has b) ha e ∙ sym (collected k b (has b) hb (λ p h. refl))

-- ---- the bit operations, port by port

module _ (op : ℕ → ℕ → ℕ) (f : Bool → Bool → Bool)
    (shr : (a b k : ℕ) → op a b / 2 ^ k ≡ op (a / 2 ^ k) (b / 2 ^ k))
    (low : (a b k : ℕ) → op a b % 2 ^ k ≡ op (a % 2 ^ k) (b % 2 ^ k))
    (one : (x y : ℕ) → x < 2 → y < 2 → (op x y == 1) ≡ f (x == 1) (y == 1)) where
  has_op : (a b p : ℕ) → has (op a b) p ≡ f (has a p) (has b p)
  unfolding has
  has_op a b zero = ap (λ (x : ℕ). nat_eq x 1) (low a b 1) ∙ one (a % 2) (b % 2) (omega arith) (omega arith)
  has_op a b (suc p) = ap (λ (x : ℕ). has x p) (shr a b 1) ∙ has_op (a / 2) (b / 2) p

or_digit : (x y : ℕ) → x < 2 → y < 2 → (bit_or x y == 1) ≡ (x == 1 || y == 1)
or_digit zero y hx hy = refl
or_digit (suc zero) zero hx hy = refl
or_digit (suc zero) (suc zero) hx hy = refl
or_digit (suc zero) (suc (suc y)) hx hy = absurd (omega arith)
or_digit (suc (suc x)) y hx hy = absurd (omega arith)

and_digit : (x y : ℕ) → x < 2 → y < 2 → (bit_and x y == 1) ≡ (x == 1 && y == 1)
and_digit zero y hx hy = refl
and_digit (suc zero) zero hx hy = refl
and_digit (suc zero) (suc zero) hx hy = refl
and_digit (suc zero) (suc (suc y)) hx hy = absurd (omega arith)
and_digit (suc (suc x)) y hx hy = absurd (omega arith)

not_digit : (x : ℕ) → x < 2 → (1 - x == 1) ≡ not (x == 1)
not_digit zero h = refl
not_digit (suc zero) h = refl
not_digit (suc (suc x)) h = absurd (omega arith)

has_or : (a b p : ℕ) → has (bit_or a b) p ≡ (has a p || has b p)
has_or = has_op bit_or ◌||◌ or_shr or_mod or_digit

has_and : (a b p : ℕ) → has (bit_and a b) p ≡ (has a p && has b p)
has_and = has_op bit_and ◌&&◌ and_shr and_mod and_digit

-- the complement at k digits
has_not : (k w p : ℕ) → w < 2 ^ k → p < k → has (2 ^ k - 1 - w) p ≡ not (has w p)
unfolding has
has_not zero w p hw h = absurd (not-suc-le-zero h)
has_not (suc k) w zero hw h =
    let low : (2 ^ suc k - 1 - w) % 2 ≡ 1 - w % 2 = omega (arith, pow-suc 2 k) in
    ap (λ (x : ℕ). nat_eq x 1) low ∙ not_digit (w % 2) (omega arith)
has_not (suc k) w (suc p) hw h =
    let high : (2 ^ suc k - 1 - w) / 2 ≡ 2 ^ k - 1 - w / 2 = omega (arith, pow-suc 2 k) in
    ap (λ (x : ℕ). has x p) high ∙ has_not k (w / 2) p (omega (arith, pow-suc 2 k)) (omega arith)

-- ---- the operations on words are those on sets, at any number of ports

pub or_is : (k a b : ℕ) → a < 2 ^ k → b < 2 ^ k → bit_or a b ≡ collect k (λ p. has a p || has b p)
or_is k a b ha hb = collected k (bit_or a b) (λ p. has a p || has b p) (or_lt k a b ha hb) (λ p h. has_or a b p)

pub and_not_is : (k a b : ℕ) → a < 2 ^ k → b < 2 ^ k → bit_and a (2 ^ k - 1 - b) ≡ collect k (λ p. has a p && not (has b p))
and_not_is k a b ha hb =
    collected k (bit_and a (2 ^ k - 1 - b)) (λ p. has a p && not (has b p))
    (and_lt k a (2 ^ k - 1 - b) ha (omega arith))
    (λ p h. has_and a (2 ^ k - 1 - b) p ∙ ap (λ (x : Bool). has a p && x) (has_not k b p hb h))

pub all_equal : (k a b : ℕ) → a < 2 ^ k → b < 2 ^ k → (all_below k (λ p. beq (has a p) (has b p)) ≡ true) ↔ (a ≡ b)
all_equal k a b ha hb = (
  λ e. same_words k a b ha hb (λ p h. (equals (has a p) (has b p)).0 (all_true k (λ p. beq (has a p) (has b p)) e p h)),
  λ e. true_all k (λ p. beq (has a p) (has b p)) (λ p h. (equals (has a p) (has b p)).1 (ap (λ (x : ℕ). has x p) e)),
)

pub all_implied : (k a b : ℕ) → (all_below k (λ p. not (has a p) || has b p) ≡ true) ↔ ((p : ℕ) → p < k → has a p ≡ true → has b p ≡ true)
all_implied k a b = (
  λ e p h. (implies (has a p) (has b p)).0 (all_true k (λ p. not (has a p) || has b p) e p h),
  λ f. true_all k (λ p. not (has a p) || has b p) (λ p h. (implies (has a p) (has b p)).1 (f p h)),
)

pub eq_is : (k a b : ℕ) → a < 2 ^ k → b < 2 ^ k → (a == b) ≡ all_below k (λ p. beq (has a p) (has b p))
eq_is k a b ha hb =
    same_truth (a == b) (all_below k (λ p. beq (has a p) (has b p)))
    (λ e. (all_equal k a b ha hb).1 (eqb-true a b e))
    (λ e. eq-eqb a b ((all_equal k a b ha hb).0 e))

pub and_eq_is : (k a b : ℕ) → a < 2 ^ k → b < 2 ^ k → (bit_and a b == a) ≡ all_below k (λ p. not (has a p) || has b p)
and_eq_is k a b ha hb =
    same_truth (bit_and a b == a) (all_below k (λ p. not (has a p) || has b p))
    (λ e. (all_implied k a b).1 (λ p h m. (and_parts (has a p) (has b p) (sym (has_and a b p) ∙ ap (λ (x : ℕ). has x p) (eqb-true (bit_and a b) a e) ∙ m)).1))
    (λ e. eq-eqb (bit_and a b) a (same_words k (bit_and a b) a (and_lt k a b ha hb) ha
    (λ p h. has_and a b p ∙ absorbed (has a p) (has b p) ((all_implied k a b).0 e p h))))

-- ---- the same at the reading's own number of ports

pub join_is : (a b : Ports) → held_ports a → held_ports b → word_ports (bit_or a.bits b.bits) ≡ union a b
join_is a b ha hb = ap word_ports (or_is port_count a.bits b.bits ha hb)

pub cut_is : (a b : Ports) → held_ports a → held_ports b → word_ports (bit_and a.bits (4294967295 - b.bits)) ≡ without a b
cut_is a b ha hb = ap word_ports (and_not_is port_count a.bits b.bits ha hb)

pub within_is : (a b : Ports) → held_ports a → held_ports b → (bit_and a.bits b.bits == a.bits) ≡ subset a b
within_is a b = and_eq_is port_count a.bits b.bits

-- with the operands of `&` in the other order
pub cut_is_turned : (a b : Ports) → held_ports a → held_ports b → word_ports (bit_and (4294967295 - b.bits) a.bits) ≡ without a b
cut_is_turned a b ha hb = ap word_ports (and_comm (4294967295 - b.bits) a.bits) ∙ cut_is a b ha hb

pub within_is_turned : (a b : Ports) → held_ports a → held_ports b → (bit_and b.bits a.bits == a.bits) ≡ subset a b
within_is_turned a b ha hb = ap (λ (x : ℕ). nat_eq x a.bits) (and_comm b.bits a.bits) ∙ within_is a b ha hb

pub same_is : (a b : Ports) → held_ports a → held_ports b → (a.bits == b.bits) ≡ same_ports a b
same_is a b = eq_is port_count a.bits b.bits

pub ports_are_sets : PortsAreSets
ports_are_sets a b ha hb =
    let in_a : ℕ → Bool = has a.bits in
    let in_b : ℕ → Bool = has b.bits in (
      λ p h. Iff.trans (same_iff (has_collect port_count (λ p. in_a p || in_b p) p h)) (either (in_a p) (in_b p)),
      λ p h. Iff.trans (same_iff (has_collect port_count (λ p. in_a p && not (in_b p)) p h)) (differs (in_a p) (in_b p)),
      all_implied port_count a.bits b.bits,
      all_equal port_count a.bits b.bits ha hb,
    )
