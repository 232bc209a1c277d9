-- What a kind of reading is, by its meaning. Assumes nothing.
use Rattle.std.specs.Prelude.{◌≡◌, ℕ, ◌^◌, ◌<◌, Bool}

-- A kind of reading, by its meaning
pub record Kind (R : Type 0) : Type 0 where
  pub word : R → ℕ
  pub reading : ℕ → R
  pub joined : R → R → R
  pub less : R → R → R
  pub inside : R → R → Bool
  pub equal : R → R → Bool

-- A kind that keeps its law: a reading turned into a word and back is that reading, of all the readings that there are,
-- and words are read as such
pub record Lawful {R : Type 0} (k : Kind R) (held : R → Type 0) : Type 0 where
  pub back : (r : R) → held r → k.reading (k.word r) ≡ r
  pub fits : (r : R) → held r → k.word r < 2 ^ 32
  pub reads : (w : ℕ) → w < 2 ^ 32 → held (k.reading w)
  pub joins : (a b : R) → held a → held b → held (k.joined a b)
  pub cuts : (a b : R) → held a → held b → held (k.less a b)
