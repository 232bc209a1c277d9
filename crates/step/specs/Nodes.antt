-- The word of a node, from the words that it reads. Assumes nothing.
use Rattle.std.specs.Prelude.{ℕ, ◌+◌, Bool, cond, not, ◌&&◌, ◌||◌, List, ◌==◌, slice_index}
use Rattle.readings.specs.Kinds.{Kind}
use Rattle.table.specs.declared.node.Node.{Node}
use Rattle.table.specs.declared.node.Node.TheVariants.{Truth, Not, And, Or, Implies, Iff, Previously, Once, Always, Since, TruthAt, Within, Same, Constant, Register, Join, Cut, ReadingAt}
use Rattle.step.specs.Records.{record_start}
use Rattle.step.specs.Truths.{truth, truth_word, implied, iff}

-- A kind of reading, by what it makes of words: each word is read by the kind, and each reading written by it.
pub record WordKind : Type 0 where
  pub own : ℕ → ℕ
  pub join : ℕ → ℕ → ℕ
  pub cut : ℕ → ℕ → ℕ
  pub within : ℕ → ℕ → Bool
  pub same : ℕ → ℕ → Bool

-- what the kind makes of words
abbrev pub on_words : {R : Type 0} → Kind R → WordKind
on_words k = record {
  own = λ a. k.word (k.reading a);
  join = λ a b. k.word (k.joined (k.reading a) (k.reading b));
  cut = λ a b. k.word (k.less (k.reading a) (k.reading b));
  within = λ a b. k.inside (k.reading a) (k.reading b);
  same = λ a b. k.equal (k.reading a) (k.reading b);
}

-- the word of node i in record j of some records
abbrev pub word_in : ℕ → List ℕ → ℕ → ℕ → ℕ
word_in m records j i = slice_index records (record_start m j + 1 + i)

-- what a switch sees while it works out a node: its own new words, all records, and its registers
pub record Sight : Type 0 where
  pub switch : ℕ
  pub nodes : ℕ
  pub words : List ℕ
  pub records : List ℕ
  pub registers : List ℕ

-- a lower node's new word
abbrev pub here : Sight → ℕ → ℕ
here v a = slice_index v.words a

-- the own word of node a from before
abbrev pub before : Sight → ℕ → ℕ
before v a = word_in v.nodes v.records v.switch a

-- a lower node's word at switch j: the newest that is known, or the own new one
abbrev pub there : Sight → ℕ → ℕ → ℕ
there v j b = cond (j == v.switch) (here v b) (word_in v.nodes v.records j b)

-- How the past comes in at node i: in a first state there is none.
pub record Past : Type 0 where
  pub previously : ℕ → Bool
  pub once : Bool → Bool
  pub always : Bool → Bool
  pub since : Bool → Bool → Bool

abbrev pub first : Sight → Past
first v = record {
  previously = λ a. truth (here v a);
  once = λ a. a;
  always = λ a. a;
  since = λ a b. b;
}

-- old is the node's own word from before
abbrev pub later : Sight → ℕ → Past
later v i = record {
  previously = λ a. truth (before v a);
  once = λ a. a || truth (before v i);
  always = λ a. a && truth (before v i);
  since = λ a b. b || (a && truth (before v i));
}

abbrev pub node_word : WordKind → Sight → Past → Node → ℕ
node_word k v p (Truth b) = truth_word b
node_word k v p (Not a) = truth_word (not (truth (here v a)))
node_word k v p (And a b) = truth_word (truth (here v a) && truth (here v b))
node_word k v p (Or a b) = truth_word (truth (here v a) || truth (here v b))
node_word k v p (Implies a b) = truth_word (implied (truth (here v a)) (truth (here v b)))
node_word k v p (Iff a b) = truth_word (iff (truth (here v a)) (truth (here v b)))
node_word k v p (Previously a) = truth_word (p.previously a)
node_word k v p (Once a) = truth_word (p.once (truth (here v a)))
node_word k v p (Always a) = truth_word (p.always (truth (here v a)))
node_word k v p (Since a b) = truth_word (p.since (truth (here v a)) (truth (here v b)))
node_word k v p (TruthAt j b) = truth_word (truth (there v j b))
node_word k v p (Within a b) = truth_word (k.within (here v a) (here v b))
node_word k v p (Same a b) = truth_word (k.same (here v a) (here v b))
node_word k v p (Constant w) = k.own w
node_word k v p (Register g) = k.own (slice_index v.registers g)
node_word k v p (Join a b) = k.join (here v a) (here v b)
node_word k v p (Cut a b) = k.cut (here v a) (here v b)
node_word k v p (ReadingAt j b) = k.own (there v j b)
