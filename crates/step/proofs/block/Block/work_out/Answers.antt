use Rattle.std.proofs.Common.{rules}
use Rattle.table.specs.Views.{view}
use Rattle.step.proofs.Laws.{step_law}
use Rattle.step.proofs.block.Block.work_out.Goals as goal

pub returns-clause-law : goal.returns-clause-law
returns-clause-law g c =
    step_law g.K.Reading.kind g.K.Reading.held (record { back = g.met.K.Reading.back; fits = g.met.K.Reading.fits; reads = g.met.K.Reading.reads; joins = g.met.K.Reading.joins; cuts = g.met.K.Reading.cuts }) (view c.args.self.now.table.now) c.args.self.now.table.now.fit c.args.self.now.switch c.args.self.now.words.now c.broken-broken.result c.args.self.now.fitting c.records.ensures.small (search rules)
