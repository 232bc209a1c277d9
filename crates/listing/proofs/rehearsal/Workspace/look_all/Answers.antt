use Rattle.std.proofs.Common.{arith}
use Rattle.listing.proofs.LookSteps.{looks_more, looks_done}
use Rattle.listing.proofs.rehearsal.Workspace.look_all.Goals as goal

pub loop-i-preserved : goal.loop-i-preserved
loop-i-preserved g c = λ sound. rw c.in_ok-push.ensures.items (looks_more _ _ _ _ _ _ c.loop-i.i c.args.count (c.loop-i.invariant sound) c.look_entry.result (omega arith) (c.look_entry.ensures sound))

pub returns : goal.returns
returns g c = λ sound. looks_done _ _ _ _ _ _ c.loop-i.i c.args.count (c.loop-i.invariant sound) (omega arith)
