use Rattle.table.specs.Views.{view}
use Rattle.step.proofs.Laws.{opening_law}
use Rattle.step.proofs.block.Block.fill.Goals as goal

pub returns-clause-law : goal.returns-clause-law
returns-clause-law g c =
    opening_law g.K.Reading.kind g.K.Reading.held (record { back = g.met.K.Reading.back; fits = g.met.K.Reading.fits; reads = g.met.K.Reading.reads; joins = g.met.K.Reading.joins; cuts = g.met.K.Reading.cuts }) (view c.args.self.now.table.now) c.args.self.now.table.now.fit c.args.self.now.switch c.args.self.now.fitting.there
