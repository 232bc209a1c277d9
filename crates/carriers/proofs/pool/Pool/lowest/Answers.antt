use Rattle.std.proofs.Common.{◌≡◌, rules}
use Rattle.std.proofs.lemmas.Iterator.{first_from_Range}
use Rattle.carriers.proofs.HeldPlaces.{lowest_first}
use Rattle.carriers.proofs.pool.Pool.lowest.Goals as goal

pub returns : goal.returns
returns g c =
    let flag = g.P.Places.flags c.args.self.now.shape c.args.self.now.memory.now in
    lowest_first flag c.args.wanted c.args.self.now.shape.capacity c.find.result
    (first_from_Range _ _ _ _ (λ k. flag k ≡ c.args.wanted) (λ k. flag k ≡ c.args.wanted → ⊥) c.find.ensures.ran (λ x q k. search rules) (λ x q k. search rules))
