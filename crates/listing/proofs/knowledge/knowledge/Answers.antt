use Rattle.std.proofs.Common.{◌++◌, string_bytes, ap, ◌∙◌, arith}
use Rattle.table.specs.Views.{view}
use Rattle.listing.specs.Knowledge.{entries_from, entry_text}
use Rattle.listing.proofs.EntrySteps.{entries_more, entries_done}
use Rattle.listing.proofs.knowledge.knowledge.Goals as goal

pub loop-i-init : goal.loop-i-init
loop-i-init c = ap (λ x. x ++ entries_from (view c.args.table.now) 0 c.args.known.now) c.in_ok-text.ensures.ok

pub loop-i-preserved : goal.loop-i-preserved
loop-i-preserved c =
    let entry = c.new.ensures in
    entries_more (view c.args.table.now) _ c.loop-i.i _ _ c.loop-i.invariant _ _ (omega arith) (c.in_ok-push_entry.ensures ∙ ap (λ e. string_bytes c.loop-i.text ++ entry_text e) entry)

pub returns : goal.returns
returns c = entries_done _ _ c.loop-i.i _ _ c.loop-i.invariant (omega arith)
