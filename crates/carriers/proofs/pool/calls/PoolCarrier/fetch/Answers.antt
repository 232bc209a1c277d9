use Rattle.std.proofs.Common.{◌≡◌, Some, None, ◌∙◌, sym, rules}
use Rattle.table.specs.Wire.{refuse}
use Rattle.table.specs.declared.fault.Reason.TheVariants.{NotHeld}
use Rattle.carriers.proofs.PoolSteps.{fetch_absent, fetch_there}
use Rattle.carriers.proofs.pool.calls.PoolCarrier.fetch.Goals as goal

pub returns-in_err-place : goal.returns-in_err-place
returns-in_err-place g c =
    let none : c.place_of.result ≡ None = search rules in
    let is : c.from_residual.result ≡ refuse NotHeld 0 = search rules in
    λ _. fetch_absent c.args.self.now.shape _ _ _ c.args.self.now.numbered c.args.self.now.distinct c.args.hand.now c.args.number _ is (c.if-hand-hand_length.false ∙ c.hand_length.ensures) (sym c.place_of.ensures ∙ none)

pub returns : goal.returns
returns g c =
    let found : c.place_of.result ≡ Some c.in_ok-place.place = search rules in
    λ _. fetch_there c.args.self.now.shape _ _ _ c.args.self.now.numbered c.args.self.now.distinct c.args.hand.now c.args.number c.in_ok-place.place _ (c.if-hand-hand_length.false ∙ c.hand_length.ensures) (sym c.place_of.ensures ∙ found) c.load.ensures
