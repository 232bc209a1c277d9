-- A node and its three words: each gives the other. Assumes nothing.
use Rattle.std.proofs.Common.{◌≡◌, ℕ, ◌^◌, ◌<◌, true, false, cond, eqb, ltb, Some, None, Option, refl, subst}
use Rattle.std.proofs.lemmas.Bool.{cond_both, cond-true, eqb-true, lt-ltb}
use Rattle.table.specs.Limits.{register_count}
use Rattle.table.specs.Nodes.{kind_word, a_word, b_word, unused, truth_constant, register, decoded}
use Rattle.table.specs.Tables.{node_holds}
use Rattle.table.specs.declared.node.Node.{Node}
use Rattle.table.specs.declared.node.Node.TheVariants.{Truth, Not, And, Or, Implies, Iff, Previously, Once, Always, Since, TruthAt, Within, Same, Constant, Register, Join, Cut, ReadingAt}

pub decoded_words : (x : Node) → node_holds x ≡ true → decoded (kind_word x) (a_word x) (b_word x) ≡ Some x
decoded_words (Truth true) h = refl
decoded_words (Truth false) h = refl
decoded_words (Not a) h = refl
decoded_words (And a b) h = refl
decoded_words (Or a b) h = refl
decoded_words (Implies a b) h = refl
decoded_words (Iff a b) h = refl
decoded_words (Previously a) h = refl
decoded_words (Once a) h = refl
decoded_words (Always a) h = refl
decoded_words (Since a b) h = refl
decoded_words (TruthAt a b) h = refl
decoded_words (Within a b) h = refl
decoded_words (Same a b) h = refl
decoded_words (Constant a) h = refl
decoded_words (Register g) h = cond-true _ _ _ h
decoded_words (Join a b) h = refl
decoded_words (Cut a b) h = refl
decoded_words (ReadingAt a b) h = refl

-- the words k, a and b are those of x
pub record WordsOf (k a b : ℕ) (x : Node) : Type 0 where
  pub kind : k ≡ kind_word x
  pub first : a ≡ a_word x
  pub second : b ≡ b_word x
  pub holds : a < 2 ^ 32 → node_holds x ≡ true

abbrev WordsOfAny : ℕ → ℕ → ℕ → Option Node → Type 0
WordsOfAny k a b None = Unit {0}
WordsOfAny k a b (Some x) = WordsOf k a b x

module _ (k a b : ℕ) where
  -- one kind, and the kinds after it
  step : (K : ℕ) (o rest : Option Node) → (k ≡ K → WordsOfAny k a b o) → WordsOfAny k a b rest → WordsOfAny k a b (cond (eqb k K) o rest)
  step K o rest h g = cond_both (eqb k K) o rest (WordsOfAny k a b) (λ e. h (eqb-true k K e)) (λ _. g)

  -- a kind that does not use b
  alone : (x : Node) → (b ≡ 0 → WordsOf k a b x) → WordsOfAny k a b (unused b x)
  alone x h = cond_both (eqb b 0) (Some x) None (WordsOfAny k a b) (λ e. h (eqb-true b 0 e)) (λ _. tt)

  truth : k ≡ 0 → WordsOfAny k a b (truth_constant a b)
  truth e =
      cond_both (eqb a 0) _ _ (WordsOfAny k a b)
      (λ f. alone (Truth false) (λ g. record { kind = e; first = eqb-true a 0 f; second = g; holds = λ _. refl }))
      (λ _. cond_both (eqb a 1) _ _ (WordsOfAny k a b)
      (λ f. alone (Truth true) (λ g. record { kind = e; first = eqb-true a 1 f; second = g; holds = λ _. refl }))
      (λ _. tt))

  one_register : k ≡ 21 → WordsOfAny k a b (register a b)
  one_register e =
      cond_both (ltb a register_count) _ _ (WordsOfAny k a b)
      (λ f. alone (Register a) (λ g. record { kind = e; first = refl; second = g; holds = λ _. f }))
      (λ _. tt)

  any_words : WordsOfAny k a b (decoded k a b)
  any_words =
      step 0 _ _ truth
      (step 1 _ _ (λ e. alone (Not a) (λ g. record { kind = e; first = refl; second = g; holds = λ _. refl }))
      (step 2 _ _ (λ e. record { kind = e; first = refl; second = refl; holds = λ _. refl })
      (step 3 _ _ (λ e. record { kind = e; first = refl; second = refl; holds = λ _. refl })
      (step 4 _ _ (λ e. record { kind = e; first = refl; second = refl; holds = λ _. refl })
      (step 5 _ _ (λ e. record { kind = e; first = refl; second = refl; holds = λ _. refl })
      (step 6 _ _ (λ e. alone (Previously a) (λ g. record { kind = e; first = refl; second = g; holds = λ _. refl }))
      (step 7 _ _ (λ e. alone (Once a) (λ g. record { kind = e; first = refl; second = g; holds = λ _. refl }))
      (step 8 _ _ (λ e. alone (Always a) (λ g. record { kind = e; first = refl; second = g; holds = λ _. refl }))
      (step 9 _ _ (λ e. record { kind = e; first = refl; second = refl; holds = λ _. refl })
      (step 10 _ _ (λ e. record { kind = e; first = refl; second = refl; holds = λ _. refl })
      (step 11 _ _ (λ e. record { kind = e; first = refl; second = refl; holds = λ _. refl })
      (step 12 _ _ (λ e. record { kind = e; first = refl; second = refl; holds = λ _. refl })
      (step 20 _ _ (λ e. alone (Constant a) (λ g. record { kind = e; first = refl; second = g; holds = λ h. lt-ltb a (2 ^ 32) h }))
      (step 21 _ _ one_register
      (step 22 _ _ (λ e. record { kind = e; first = refl; second = refl; holds = λ _. refl })
      (step 23 _ _ (λ e. record { kind = e; first = refl; second = refl; holds = λ _. refl })
      (step 24 _ _ (λ e. record { kind = e; first = refl; second = refl; holds = λ _. refl }) tt)))))))))))))))))

pub words_decoded : (k a b : ℕ) (x : Node) → decoded k a b ≡ Some x → WordsOf k a b x
words_decoded k a b x e = subst (WordsOfAny k a b) e (any_words k a b)
