use Rattle.std.proofs.lemmas.List.{length_push}
use Rattle.std.proofs.lemmas.Iterator.{YieldsList-from_slice, YieldsList-from_zip}
use Rattle.std.proofs.lemmas.Iterator.Consumers.{YieldsList-from_enumerate, YieldsList-turn, YieldsList-end}
use Rattle.listing.proofs.LineSteps.{lines_more, lines_done}
use Rattle.listing.proofs.text.listing.Goals as goal

pub loop-i-preserved : goal.loop-i-preserved
loop-i-preserved c =
    let all = YieldsList-from_enumerate {s = c.into_iter-i-iterator.result} (YieldsList-from_zip (YieldsList-from_slice c.args.calls.now cc) (YieldsList-from_slice c.args.replies.now cc)) cc in
    let turn = YieldsList-turn all c.loop-i.yielded c.loop-i.i-iterator c.loop-i.yielded_by _ c.next.new.self (c.in-Some.i, (c.in-Some.call, c.in-Some.reply)) c.in-Some.is c.next.ensures.steps in
    rw (length_push c.loop-i.yielded) (lines_more _ _ _ _ _ c.loop-i.invariant (c.in-Some.i, (c.in-Some.call.now, c.in-Some.reply.now)) _ turn c.in_ok-push_line.ensures)

pub returns : goal.returns
returns c =
    let all = YieldsList-from_enumerate {s = c.into_iter-i-iterator.result} (YieldsList-from_zip (YieldsList-from_slice c.args.calls.now cc) (YieldsList-from_slice c.args.replies.now cc)) cc in
    let end = YieldsList-end all c.loop-i.yielded c.loop-i.i-iterator c.loop-i.yielded_by _ c.next.new.self c.in-None.is c.next.ensures.steps in
    lines_done _ _ _ _ _ c.loop-i.invariant end.1
