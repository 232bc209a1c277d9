use Rattle.std.proofs.Common.{◌+◌, ◌*◌, length, get_or, sym, ap, ◌∙◌}
use Rattle.table.specs.Views.{view}
use Rattle.fleet.specs.Blocks.{Inside}
use Rattle.fleet.proofs.Middle.{word_there}
use Rattle.fleet.proofs.blocks.Blocks.word.Goals as goal

pub returns : goal.returns
returns c =
    let t = view c.args.self.now.table.now in
    let s = c.args.switch in
    let memory = c.args.self.now.memory.now in
    let inside : Inside t s memory = record { there = c.requires.there; room = c.args.self.now.whole } in
    let same = ap length c.nodes.ensures.value in
    (λ i. get_or memory (c.start-at.ensures.value i + c.args.of * (same i + 1) + c.args.i) 0)
    ∙ sym (word_there t s memory inside c.args.of c.args.i c.requires.known c.requires.within)
