use Rattle.std.proofs.Common.{◌≡◌, ◌+◌, is_ok, sym, ap, ◌∙◌, arith, rules}
use Rattle.std.proofs.lemmas.Result.{err_from_is_err_and}
use Rattle.table.proofs.ArrayLoops.{items_done, items_stop, pushed_more, read_there}
use Rattle.table.proofs.table.parse.read_array.Given as given
use Rattle.table.proofs.table.parse.read_array.Goals as goal
use Rattle.table.proofs.table.parse.read_array.Goals.{After-read}

-- what the call read, of the bytes that were handed in
said : (g : given.Over) {r : _} (c : After-read g) → c.read.result ≡ r → g.T.Element.read c.args.switches c.args.nodes.now c.args.reader.now.bytes.now c.loop-i.reader.at c.loop-i.array.items ≡ r
said g {r} c was = read_there (g.T.Element.read c.args.switches c.args.nodes.now) c.loop-i.reader.bytes.now _ c.loop-i.reader.at _ _ _ _ c.loop-i.invariant.0 c.deref.ensures.0 c.read.ensures.value was

pub returns-in_err-element : goal.returns-in_err-element
returns-in_err-element g c =
    let p = err_from_is_err_and c.from_residual.result c.from_residual.ensures.1 in
    let stopped = items_stop (g.T.Element.read c.args.switches c.args.nodes.now c.args.reader.now.bytes.now) g.T.Element.size c.loop-i.reader.at c.loop-i._i c.args.count c.loop-i.array.items _ c.loop-i-test.true
    (said g (goal.at.returns-in_err-element g c).After-read c.in_err-element.was) in
    rw (p.1, p.2) (record { value = sym stopped ∙ c.loop-i.invariant.3; many = tt; reader = search rules })

pub loop-i-preserved : goal.loop-i-preserved
loop-i-preserved g c =
    let moved : c.read.new.reader.at ≡ c.loop-i.reader.at + g.T.Element.size = c.read.ensures.reader.at (ap is_ok c.in_ok-element.was) in (
      c.read.ensures.reader.bytes ∙ c.loop-i.invariant.0,
      omega (arith, moved, c.loop-i.invariant.1),
      c.push.ensures.len ∙ ap (λ k. k + 1) c.loop-i.invariant.2,
      pushed_more (g.T.Element.read c.args.switches c.args.nodes.now c.args.reader.now.bytes.now) g.T.Element.size _ _ c.loop-i._i c.args.count _ _ c.in_ok-element.element _ c.loop-i-test.true
          (said g (goal.at.loop-i-preserved g c).After-read c.in_ok-element.was) moved c.push.ensures.items c.loop-i.invariant.3,
    )

pub returns : goal.returns
returns g c = record {
  value = sym (items_done (g.T.Element.read c.args.switches c.args.nodes.now c.args.reader.now.bytes.now) g.T.Element.size c.loop-i.reader.at c.loop-i._i c.args.count c.loop-i.array.items c.loop-i-test.false) ∙ c.loop-i.invariant.3;
  many = omega (arith, c.loop-i.invariant.2, c.loop-i-test.false, c.loop-i.auto._i-end);
  reader = search rules;
}
