use Rattle.std.proofs.Common.{◌≡◌, Some, None, ◌∙◌, sym, rules}
use Rattle.table.specs.Wire.{refuse}
use Rattle.table.specs.declared.fault.Reason.TheVariants.{Full}
use Rattle.carriers.proofs.PoolSteps.{put_full, put_stored}
use Rattle.carriers.proofs.pool.calls.PoolCarrier.put.Goals as goal

pub returns-in_err-place : goal.returns-in_err-place
returns-in_err-place g c =
    let none : c.lowest.result ≡ None = search rules in
    let is : c.from_residual.result ≡ refuse Full 0 = search rules in
    λ _. put_full c.args.self.now.shape _ _ _ c.args.self.now.numbered c.args.self.now.distinct c.args.hand.now _ is (c.if-hand-hand_length.false ∙ c.hand_length.ensures) c.if-hand-self.false (sym c.lowest.ensures ∙ none)

pub returns : goal.returns
returns g c =
    let found : c.lowest.result ≡ Some c.in_ok-place.place = search rules in
    λ _. put_stored c.args.self.now.shape _ _ _ c.args.self.now.numbered c.args.self.now.distinct c.args.hand.now c.hold.new.self.shape _ _ _ c.in_ok-place.place c.hold.ensures.shape c.hold.ensures.next (c.if-hand-hand_length.false ∙ c.hand_length.ensures) c.if-hand-self.false c.if-number.false (sym c.lowest.ensures ∙ found) c.hold.ensures.places
