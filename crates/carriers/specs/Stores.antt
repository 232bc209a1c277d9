-- What a write to one place does to all of them. Assumes nothing.
use Rattle.std.specs.Prelude.{◌≡◌, ℕ, ◌<◌, List, ◌≢◌}

-- the other places are as they were
abbrev pub Others : (flag flag' : ℕ → ℕ) (copy copy' : ℕ → List ℕ) (c p : ℕ) → Type 0
Others flag flag' copy copy' c p = (k : ℕ) → k < c → (k ≢ p) → (flag' k ≡ flag k) × (copy' k ≡ copy k)

pub record Stored (flag flag' : ℕ → ℕ) (copy copy' : ℕ → List ℕ) (c p f : ℕ) (hand : List ℕ) : Type 0 where
  pub flagged : flag' p ≡ f
  pub copied : copy' p ≡ hand
  pub others : Others flag flag' copy copy' c p

pub record Released (flag flag' : ℕ → ℕ) (copy copy' : ℕ → List ℕ) (c p : ℕ) : Type 0 where
  pub freed : flag' p ≡ 0
  pub others : Others flag flag' copy copy' c p
