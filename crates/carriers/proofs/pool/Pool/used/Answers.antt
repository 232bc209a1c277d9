use Rattle.std.proofs.Common.{not, eqb, ◌∙◌, arith, rules}
use Rattle.std.proofs.lemmas.Iterator.{YieldsList-from_range}
use Rattle.std.proofs.lemmas.Iterator.Consumers.{YieldsList-from_filter, count_from_yields_List}
use Rattle.carriers.proofs.HeldPlaces.{used_count}
use Rattle.carriers.proofs.pool.Pool.used.Goals as goal

pub returns : goal.returns
returns g c =
    let flag = g.P.Places.flags c.args.self.now.shape c.args.self.now.memory.now in
    let capacity = c.args.self.now.shape.capacity in
    count_from_yields_List _ _ c.count.ensures.ran (YieldsList-from_filter _ (λ k. not (eqb (flag k) 0)) (YieldsList-from_range 0 capacity capacity c.filter.ensures.source (omega arith)) c.filter.ensures.closure (λ x b q k. search rules))
    ∙ used_count flag capacity
