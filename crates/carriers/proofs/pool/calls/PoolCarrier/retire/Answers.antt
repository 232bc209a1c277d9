use Rattle.std.proofs.Common.{◌≡◌, Some, None, [], ◌∙◌, sym, rules}
use Rattle.table.specs.Wire.{refuse}
use Rattle.table.specs.declared.fault.Reason.TheVariants.{NotHeld}
use Rattle.carriers.proofs.PoolSteps.{retire_absent, retire_there}
use Rattle.carriers.proofs.pool.calls.PoolCarrier.retire.Goals as goal

pub returns-in_err-place : goal.returns-in_err-place
returns-in_err-place g c =
    let none : c.place_of.result ≡ None = search rules in
    let is : c.from_residual.result ≡ refuse NotHeld 0 = search rules in
    λ _. retire_absent c.args.self.now.shape _ _ _ c.args.self.now.numbered c.args.self.now.distinct [] c.args.number _ is (sym c.place_of.ensures ∙ none)

pub returns : goal.returns
returns g c =
    let found : c.place_of.result ≡ Some c.in_ok-place.place = search rules in
    λ _. retire_there c.args.self.now.shape _ _ _ c.args.self.now.numbered c.args.self.now.distinct [] c.args.number c.free.new.self.shape _ _ _ c.in_ok-place.place c.free.ensures.shape c.free.ensures.next (sym c.place_of.ensures ∙ found) c.free.ensures.places
