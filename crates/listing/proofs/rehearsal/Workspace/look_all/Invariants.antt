use Rattle.std.proofs.Common.{◌≡◌, ◌-◌, ◌++◌, replicate}
use Rattle.table.specs.Views.{view}
use Rattle.fleet.specs.Shapes.{state}
use Rattle.listing.specs.Rehearsals.{looks_from, unknown}
use Rattle.listing.proofs.rehearsal.Workspace.look_all.Given as goal

abbrev pub invariant-loop-i : goal.invariant-loop-i
invariant-loop-i g l =
    let t = view l.self.table.now in
    let f = state l.self.memory.items l.self.hand.items (g.C.Carrier.meaning l.fleet.carrier) in
    g.C.Carrier.sound l.fleet.carrier
    → l.known.items ++ looks_from l.fleet.live g.K.Reading.CODE t f l.i (replicate (l.count - l.i) unknown)
    ≡ looks_from l.fleet.live g.K.Reading.CODE t f 0 (replicate l.count unknown)
