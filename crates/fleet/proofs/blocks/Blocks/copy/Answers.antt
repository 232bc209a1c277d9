use Rattle.std.proofs.Common.{◌≡◌, ◌-◌, ◌∷◌, length, ap, ◌∙◌, arith}
use Rattle.table.specs.Views.{view}
use Rattle.step.specs.Records.{records_length}
use Rattle.fleet.specs.Blocks.{Inside}
use Rattle.fleet.proofs.Middle.{copied, front_there}
use Rattle.fleet.proofs.blocks.Blocks.copy.Goals as goal

pub returns : goal.returns
returns c =
    let t = view c.args.self.now.table.now in
    let s = c.args.switch in
    let memory = c.args.self.now.memory.now in
    let inside : Inside t s memory = record { there = c.requires.there; room = c.args.self.now.whole } in
    let k = records_length t.switches (length t.nodes) in
    let wide : c.block_length-records.result - 8 ≡ k = omega (arith, c.block_length-records.ensures) in
    copied c.args.hand.now c.copy_from_slice.new.self s k _ c.requires.room (omega (arith, wide))
    ∙ ap (λ ys. s ∷ ys) (c.copy_from_slice.ensures.after ∙ front_there t s memory inside _ _ c.start-at.ensures.value wide)
