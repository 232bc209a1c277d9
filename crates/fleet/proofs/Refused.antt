-- A reason to refuse, and the answers that it makes. Assumes nothing.
use Rattle.std.proofs.Common.{◌≡◌, ℕ, Bool, true, false, cond, Some, None, Ok, Err, Option, Result, IsErrAnd, is_ok, refl, ap, ◌∙◌, arith}
use Rattle.std.proofs.lemmas.Result.{err_from_is_err_and}
use Rattle.table.specs.Wire.{fault}
use Rattle.table.specs.declared.fault.Fault.{Fault}
use Rattle.table.specs.declared.fault.Reason.{Reason}
use Rattle.table.specs.declared.fault.Reason.TheVariants as why
use Rattle.table.specs.Refusals.{number}
use Rattle.step.specs.Refusing.{refused_by}
use Rattle.step.specs.Steps.{answer_of}
use Rattle.fleet.specs.FleetCalls.{or_else}
use Rattle.fleet.specs.Shapes.{answer_number}

-- the reason of a refusal
pub reason_of : (o : Option Reason) (w : Reason) → Err w ≡ refused_by o → Some w ≡ o
reason_of None w is = let z : ◌≡◌ {A = ℕ} 0 1 = cc is in absurd (omega arith)
reason_of (Some v) w is = let same : w ≡ v = cc in ap Some same

-- and none where nothing is refused
pub no_reason : (o : Option Reason) (u : Unit {0}) → Ok u ≡ refused_by o → None ≡ o
no_reason None u is = refl
no_reason (Some v) u is = let z : ◌≡◌ {A = ℕ} 0 1 = cc is in absurd (omega arith)

-- What `?` hands on of a refusal, w, is the answer where more could have followed

module _ (a b : Option Reason) (w : Reason) (is : Err w ≡ refused_by a) where
  first_is : Some w ≡ or_else a b
  first_is = ap (λ o. or_else o b) (reason_of a w is)

  pub handed_on : (r : Result (Unit {0}) Reason) → IsErrAnd r (λ e. e ≡ w) → r ≡ refused_by (or_else a b)
  handed_on r h =
      let p = err_from_is_err_and r h in
      p.1 ∙ ap Err p.2 ∙ ap refused_by first_is

  pub handed_out : {A : Type 0} (x : A) (r : Result A Fault) → IsErrAnd r (λ e. e ≡ fault w 0) → r ≡ answer_of (or_else a b) x
  handed_out x r h =
      let p = err_from_is_err_and r h in
      p.1 ∙ ap Err p.2 ∙ ap (λ o. answer_of o x) first_is

-- a fleet is opened exactly where its number is 0
pub accepted : (b : Bool) (r : Result (Unit {0}) Reason) → answer_number r ≡ cond b 0 (number why.Shape) → is_ok r ≡ b
accepted true (Ok u) is = refl
accepted false (Ok u) is = absurd (omega (arith, is))
accepted false (Err w) is = refl
accepted true (Err why.TableLength) is = absurd (omega (arith, is))
accepted true (Err why.TableField) is = absurd (omega (arith, is))
accepted true (Err why.Node) is = absurd (omega (arith, is))
accepted true (Err why.Rule) is = absurd (omega (arith, is))
accepted true (Err why.Shape) is = absurd (omega (arith, is))
accepted true (Err why.Shut) is = absurd (omega (arith, is))
accepted true (Err why.Switch) is = absurd (omega (arith, is))
accepted true (Err why.Operand) is = absurd (omega (arith, is))
accepted true (Err why.Full) is = absurd (omega (arith, is))
accepted true (Err why.NotHeld) is = absurd (omega (arith, is))
accepted true (Err why.Count) is = absurd (omega (arith, is))
accepted true (Err why.Copy) is = absurd (omega (arith, is))
accepted true (Err why.Events) is = absurd (omega (arith, is))
