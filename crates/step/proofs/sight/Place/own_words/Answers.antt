use Rattle.std.proofs.Common.{◌∙◌, sym, arith, rules}
use Rattle.step.proofs.NewWords.{words_turn, words_done}
use Rattle.step.proofs.sight.Place.own_words.Goals as goal

pub loop-node-preserved : goal.loop-node-preserved
loop-node-preserved g c = (
  omega (arith, c.push.ensures.len, c.loop-node.invariant.0),
  words_turn _ _ _ _ _ c.args.nodes.now _ c.loop-node.node-index _ _ _ _ _ c.loop-node-test.true c.deref.ensures.0 c.own_word-word.ensures c.push.ensures.items c.loop-node.invariant.1,
)

pub returns : goal.returns
returns g c = record {
  every = omega (arith, c.loop-node.invariant.0, c.loop-node-test.false, c.loop-node.auto.node-index-end, c.requires.every);
  words = words_done _ _ _ _ _ c.args.nodes.now c.loop-node.node-index c.loop-node.words.items _ c.loop-node-test.false c.loop-node.invariant.1;
}
