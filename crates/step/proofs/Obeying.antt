-- A node's word, worked out from what a switch sees, stands for the value that the logic says. Assumes nothing.
use Rattle.std.proofs.Common.{◌≡◌, ℕ, zero, suc, ◌^◌, ◌<◌, Bool, true, false, cond, not, ◌&&◌, ◌||◌, eqb, ltb, List, [], ◌∷◌, get_or, sym, refl, ap, ◌∙◌, arith, ltb-true}
use Rattle.std.proofs.lemmas.Bool.{and_parts}
use Rattle.table.specs.Tables.{node_holds}
use Rattle.table.specs.declared.node.Node.{Node}
use Rattle.table.specs.declared.node.Node.TheVariants.{Truth, Not, And, Or, Implies, Iff, Previously, Once, Always, Since, TruthAt, Within, Same, Constant, Register, Join, Cut, ReadingAt}
use Rattle.readings.specs.Kinds.{Kind, Lawful}
use Rattle.step.specs.Logic.{Values, Before, values_of, previously, once, always, since, Obeys}
use Rattle.step.specs.Nodes.{on_words, Sight, Past, word_in, here, there, node_word}
use Rattle.step.specs.Names.{names_below}
use Rattle.step.specs.StepLaws.{Words}
use Rattle.step.specs.Truths.{truth, truth_word, implied, iff}

truth_back : (b : Bool) → truth (truth_word b) ≡ b
truth_back true = refl
truth_back false = refl

truth_small : (b : Bool) → truth_word b < 2 ^ 32
truth_small true = omega arith
truth_small false = omega arith

-- past the end of a list the word is 0
pub word_small : (ws : List ℕ) (i : ℕ) → Words ws → get_or ws i 0 < 2 ^ 32
word_small [] i h = omega arith
word_small (w ∷ ws) zero h = h.0
word_small (w ∷ ws) (suc i) h = word_small ws i h.1

-- all that a switch sees are words
pub record Small (v : Sight) : Type 0 where
  pub words : Words v.words
  pub records : Words v.records
  pub registers : Words v.registers

there_small : (v : Sight) → Small v → (j b : ℕ) → there v j b < 2 ^ 32
there_small v h j b = way (eqb j v.switch)
  where
    way : (q : Bool) → cond q (here v b) (word_in v.nodes v.records j b) < 2 ^ 32
    way true = word_small v.words b h.words
    way false = word_small v.records _ h.records

-- Node i's word is worked out from the sight v and the past p: the words ws, the state before and the states of the
-- switches tell the same of what is below i
pub record Seen {R : Type 0} (k : Kind R) (n i : ℕ) (v : Sight) (p : Past) (ws : List ℕ) (old : Before R) (at : ℕ → Values R) : Type 0 where
  pub own : (a : ℕ) → a < i → get_or ws a 0 ≡ here v a
  pub truths : (j b : ℕ) → j < n → b < i → (at j).truths b ≡ truth (there v j b)
  pub readings : (j b : ℕ) → j < n → b < i → (at j).readings b ≡ k.reading (there v j b)
  pub one_back : (a : ℕ) → a < i → p.previously a ≡ previously old (truth (here v a)) a
  pub ever : (a : Bool) → p.once a ≡ once old a i
  pub throughout : (a : Bool) → p.always a ≡ always old a i
  pub from_then : (a b : Bool) → p.since a b ≡ since old a b i

module _ {R : Type 0} (k : Kind R) (held : R → Type 0) (law : Lawful k held) where
  module _ (v : Sight) (small : Small v) where
    here_held : (a : ℕ) → held (k.reading (here v a))
    here_held a = law.reads (here v a) (word_small v.words a small.words)

    there_held : (j b : ℕ) → held (k.reading (there v j b))
    there_held j b = law.reads (there v j b) (there_small v small j b)

    register_held : (g : ℕ) → held (k.reading (get_or v.registers g 0))
    register_held g = law.reads _ (word_small v.registers g small.registers)

    -- a node's word is a word
    pub node_small : (p : Past) (x : Node) → node_holds x ≡ true → node_word (on_words k) v p x < 2 ^ 32
    node_small p (Truth b) holds = truth_small _
    node_small p (Not a) holds = truth_small _
    node_small p (And a b) holds = truth_small _
    node_small p (Or a b) holds = truth_small _
    node_small p (Implies a b) holds = truth_small _
    node_small p (Iff a b) holds = truth_small _
    node_small p (Previously a) holds = truth_small _
    node_small p (Once a) holds = truth_small _
    node_small p (Always a) holds = truth_small _
    node_small p (Since a b) holds = truth_small _
    node_small p (TruthAt j b) holds = truth_small _
    node_small p (Within a b) holds = truth_small _
    node_small p (Same a b) holds = truth_small _
    node_small p (Constant w) holds = law.fits _ (law.reads w (ltb-true _ _ holds))
    node_small p (Register g) holds = law.fits _ (register_held g)
    node_small p (Join a b) holds = law.fits _ (law.joins _ _ (here_held a) (here_held b))
    node_small p (Cut a b) holds = law.fits _ (law.cuts _ _ (here_held a) (here_held b))
    node_small p (ReadingAt j b) holds = law.fits _ (there_held j b)

    module _ (n i : ℕ) (p : Past) (ws : List ℕ) (old : Before R) (at : ℕ → Values R) (seen : Seen k n i v p ws old at) where
      -- what the words tell of one node below i, and of two
      one : (f : ℕ → Bool) (a : ℕ) → ltb a i ≡ true → f (here v a) ≡ f (get_or ws a 0)
      one f a h = ap f (sym (seen.own a (ltb-true a i h)))

      two : {A : Type 0} (f : ℕ → ℕ → A) (a b : ℕ) → (ltb a i && ltb b i) ≡ true → f (here v a) (here v b) ≡ f (get_or ws a 0) (get_or ws b 0)
      two f a b h =
          let p = sym (seen.own a (ltb-true a i (and_parts _ _ h).0)) in
          let q = sym (seen.own b (ltb-true b i (and_parts _ _ h).1)) in
          (λ z. f (p z) (q z))

      -- the truth that is written, read back
      told : (b : Bool) → get_or ws i 0 ≡ truth_word b → truth (get_or ws i 0) ≡ b
      told b e = ap truth e ∙ truth_back b

      pub obeys : (x : Node) → names_below n i x ≡ true → node_holds x ≡ true → get_or ws i 0 ≡ node_word (on_words k) v p x → Obeys k (λ g. k.reading (get_or v.registers g 0)) old at (values_of k ws) i x
      obeys (Truth b) named holds e = told _ e
      obeys (Not a) named holds e = told _ e ∙ one (λ x. not (truth x)) a named
      obeys (And a b) named holds e = told _ e ∙ two (λ x y. truth x && truth y) a b named
      obeys (Or a b) named holds e = told _ e ∙ two (λ x y. truth x || truth y) a b named
      obeys (Implies a b) named holds e = told _ e ∙ two (λ x y. implied (truth x) (truth y)) a b named
      obeys (Iff a b) named holds e = told _ e ∙ two (λ x y. iff (truth x) (truth y)) a b named
      obeys (Previously a) named holds e = told _ e ∙ seen.one_back a (ltb-true a i named) ∙ one (λ x. previously old (truth x) a) a named
      obeys (Once a) named holds e = told _ e ∙ seen.ever _ ∙ one (λ x. once old (truth x) i) a named
      obeys (Always a) named holds e = told _ e ∙ seen.throughout _ ∙ one (λ x. always old (truth x) i) a named
      obeys (Since a b) named holds e = told _ e ∙ seen.from_then _ _ ∙ two (λ x y. since old (truth x) (truth y) i) a b named
      obeys (TruthAt j b) named holds e = told _ e ∙ sym (seen.truths j b (ltb-true j n (and_parts _ _ named).0) (ltb-true b i (and_parts _ _ named).1))
      obeys (Within a b) named holds e = told _ e ∙ two (λ x y. k.inside (k.reading x) (k.reading y)) a b named
      obeys (Same a b) named holds e = told _ e ∙ two (λ x y. k.equal (k.reading x) (k.reading y)) a b named
      obeys (Constant w) named holds e = ap k.reading e ∙ law.back _ (law.reads w (ltb-true _ _ holds))
      obeys (Register g) named holds e = ap k.reading e ∙ law.back _ (register_held g)
      obeys (Join a b) named holds e =
          ap k.reading e ∙ law.back _ (law.joins _ _ (here_held a) (here_held b)) ∙ two (λ x y. k.joined (k.reading x) (k.reading y)) a b named
      obeys (Cut a b) named holds e =
          ap k.reading e ∙ law.back _ (law.cuts _ _ (here_held a) (here_held b)) ∙ two (λ x y. k.less (k.reading x) (k.reading y)) a b named
      obeys (ReadingAt j b) named holds e =
          ap k.reading e ∙ law.back _ (there_held j b) ∙ sym (seen.readings j b (ltb-true j n (and_parts _ _ named).0) (ltb-true b i (and_parts _ _ named).1))
