use Rattle.std.proofs.Common.{ap, ◌∙◌, rules}
use Rattle.table.specs.Views.{view}
use Rattle.step.specs.Blocks.{node_count}
use Rattle.step.specs.Steps.{own_count, receive}
use Rattle.step.proofs.Acting.{acted_own}
use Rattle.step.proofs.block.Block.act.Goals as goal

pub returns-in-Receive-clause-own : goal.returns-in-Receive-clause-own
returns-in-Receive-clause-own c =
    let own = c.args.self.now in
    ap (own_count (node_count own) own.switch) c.take_hand.ensures.words
    ∙ acted_own (view own.table.now) own.switch (receive c.in-Receive.hand.now) own.words.now own.fitting (search rules) (search rules)
