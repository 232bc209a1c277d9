use Rattle.std.proofs.Common.{◌≡◌, ◌<◌, [], ◌∷◌, codes, sym, refl, ap, ◌∙◌, arith}
use Rattle.std.proofs.Output.{has_written_append}
use Rattle.readings.specs.Ports.{port_count}
use Rattle.inspect.proofs.PortSteps.{one_more, none_there, all_of}
use Rattle.inspect.proofs.value.PortListDisplay.fmt.Goals as goal
use Rattle.inspect.proofs.value.PortListDisplay.fmt.Goals.{then-has+in_ok-write, else-has}

pub loop-port-preserved : goal.loop-port-preserved
unfolding lib.Utf8.encode
loop-port-preserved g c =
    let took = g.W.Write.write_str_gives in
    let w = c.args.self.now.bits in
    let p = c.loop-port.port-counter in
    let lt : p < port_count = omega arith in
    let before = c.loop-port.invariant in
    elim c.if-has.branch [
      | then-has+in_ok-write b ↦
          let comma : c.if-has.between.now ≡ codes ", " = ap (λ r. r.now) b.between-is in (
            (44 ∷ 32 ∷ [], (refl, sym comma)),
            one_more took c.write_str.new.self c.loop-port.f _ c.if-has.f w p c.loop-port.between.now c.if-has.between.now lt (sym c.has.ensures ∙ b.if-has.true) b.f-is comma before.1
                (λ plain. b.in_ok-write.ensures.writes plain refl),
          )
      | else-has b ↦
          let kept : c.if-has.between.now ≡ c.loop-port.between.now = ap (λ r. r.now) b.between-is in (
            (before.0.0, (before.0.1.0, before.0.1.1 ∙ sym kept)),
            none_there took c.write_str.new.self c.loop-port.f c.if-has.f w p c.loop-port.between.now c.if-has.between.now lt (sym c.has.ensures ∙ b.if-has.false) b.f-is kept before.1,
          )
    ]

pub returns-clause-writes : goal.returns-clause-writes
returns-clause-writes g c plain ok =
    let took = g.W.Write.write_str_gives in
    let w = c.args.self.now.bits in
    let p = c.loop-port.port-counter in
    let end : p ≡ port_count = omega arith in
    let opened = c.in_ok-write_str.ensures.writes plain refl in
    let listed = all_of took c.write_str.new.self c.loop-port.f w p c.loop-port.between.now end c.loop-port.invariant.1 opened.plain in
    has_written_append took _ _ _ _ _ opened (has_written_append took _ _ _ _ _ listed (c.write_str-2.ensures.writes listed.plain ok))
