use Rattle.std.proofs.Common.{take}
use Rattle.std.specs.List.{AllByRecursion}
use Rattle.table.specs.Views.{view}
use Rattle.step.specs.Nodes.{on_words}
use Rattle.history.specs.Runs.{WordCall}
use Rattle.fleet.specs.FleetRuns.{listed}
use Rattle.fleet.specs.Shapes.{state}
use Rattle.fleet.proofs.Running.{Running}
use Rattle.fleet.proofs.fleet.Fleet.run.Given as goal

abbrev pub invariant-loop-i : goal.invariant-loop-i
invariant-loop-i g l =
    AllByRecursion WordCall (listed (take l.i l.calls))
    × (g.C.Carrier.sound l.initial.self.carrier
    → Running g.K.Reading.CODE (on_words g.K.Reading.kind) (view l.table) l.initial.self.live
    (state l.initial.memory l.initial.hand (g.C.Carrier.meaning l.initial.self.carrier))
    l.calls l.initial.replies l.self.live (state l.memory l.hand (g.C.Carrier.meaning l.self.carrier))
    l.i l.replies (g.C.Carrier.sound l.self.carrier))
