-- What a refusal leaves. Assumes nothing.
use Rattle.std.proofs.Common.{◌≡◌, ℕ, Some, None, Err, Option, List, refl, ap}
use Rattle.table.specs.Wire.{refuse}
use Rattle.table.specs.declared.fault.Reason.{Reason}
use Rattle.step.specs.Refusing.{refused_by}
use Rattle.step.specs.Steps.{answer_of, block_of}

-- the answer is the refusal's, at no place
pub answer_refused : {A : Type 0} (o : Option Reason) (x : A) (r : Reason) → refused_by o ≡ Err r → answer_of o x ≡ refuse r 0
answer_refused None x r e = cc
answer_refused (Some w) x r e = ap (λ (v : Reason). refuse v 0) (let same : w ≡ r = cc in same)

-- the block stays
pub block_refused : (o : Option Reason) (before after : List ℕ) (r : Reason) → refused_by o ≡ Err r → block_of o before after ≡ before
block_refused None before after r e = cc
block_refused (Some w) before after r e = refl
