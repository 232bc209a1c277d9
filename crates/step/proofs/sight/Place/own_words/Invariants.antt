use Rattle.std.proofs.Common.{◌≡◌, [], length, drop}
use Rattle.step.specs.Nodes.{on_words}
use Rattle.step.specs.Steps.{new_words}
use Rattle.step.proofs.sight.Place.own_words.Given as goal

abbrev pub invariant-loop-node : goal.invariant-loop-node
invariant-loop-node g l =
    let k = on_words g.K.Reading.kind in
    let p = l.self in
    (length l.words.items ≡ l.node-index)
    × (new_words k p.records.nodes p.switch p.records.words.now p.registers.now (drop l.node-index l.nodes) l.words.items ≡ new_words k p.records.nodes p.switch p.records.words.now p.registers.now l.nodes [])
