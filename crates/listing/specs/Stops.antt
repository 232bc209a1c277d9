-- An answer that may fail for want of memory. Assumes nothing.
use Rattle.std.specs.Prelude.{◌≡◌, Ok, Err, Result}
use Rattle.listing.specs.declared.stop.Stop.{Stop}
use Rattle.listing.specs.declared.stop.Stop.TheVariants.{Refused, Memory}

-- a refusal is the wanted one; want of memory says nothing
abbrev pub Says : {R A : Type 0} → Stop R → Result A R → Type 0
Says (Refused e) wanted = wanted ≡ Err e
Says Memory wanted = Unit {0}

-- what the answer holds is what is wanted
abbrev pub Gives : {R V A : Type 0} → (V → A) → Result V (Stop R) → Result A R → Type 0
Gives held (Ok v) wanted = wanted ≡ Ok (held v)
Gives held (Err e) wanted = Says e wanted
