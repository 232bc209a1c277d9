use Rattle.std.proofs.Common.{◌≡◌, ◌+◌, true, [], ◌∷◌, ◌++◌, is_ok, Ok, Err, vec_items, sym, ap, ◌∙◌, arith, rules}
use Rattle.std.proofs.lemmas.Result.{err_from_is_err_and}
use Rattle.table.proofs.ArrayLoops.{items_more, items_stop, items_done}
use Rattle.listing.specs.Events.{call_at, call_size}
use Rattle.listing.proofs.events.read_calls.Goals as goal

pub returns-in_err-read_call : goal.returns-in_err-read_call
returns-in_err-read_call c =
    let p = err_from_is_err_and c.from_residual.result c.from_residual.ensures.1 in
    let bs = c.args.reader.now.bytes.now in
    let reads : call_at bs c.loop-i.reader.at ≡ Err c.in_err-read_call.field-0.0 = search rules in
    rw (p.1, p.2) (record {
      value = sym c.loop-i.invariant.2 ∙ items_stop (λ at earlier. call_at bs at) call_size c.loop-i.reader.at c.loop-i._i c.args.count _ _ c.loop-i-test.true reads;
      reader = search rules;
    })

pub loop-i-preserved : goal.loop-i-preserved
loop-i-preserved c =
    let bs = c.args.reader.now.bytes.now in
    let reads : call_at bs c.loop-i.reader.at ≡ Ok c.in_ok-read_call.field-0 = search rules in
    let well : is_ok c.read_call.result ≡ true = ap is_ok c.in_ok-read_call.was in
    let moved : c.read_call.new.reader.at ≡ c.loop-i.reader.at + call_size = c.read_call.ensures.reader.at well in
    let pushed : vec_items c.push.new.self ≡ vec_items c.loop-i.calls ++ c.in_ok-read_call.field-0 ∷ [] = c.in_ok-push.ensures.items in (
      search rules,
      omega arith,
      rw (moved, pushed) (sym (items_more (λ at earlier. call_at bs at) call_size c.loop-i.reader.at c.loop-i._i c.args.count _ _ c.loop-i-test.true reads) ∙ c.loop-i.invariant.2),
    )

pub returns : goal.returns
returns c = record {
  value = sym c.loop-i.invariant.2 ∙ items_done (λ at earlier. call_at c.args.reader.now.bytes.now at) call_size c.loop-i.reader.at c.loop-i._i c.args.count _ c.loop-i-test.false;
  reader = search rules;
}
