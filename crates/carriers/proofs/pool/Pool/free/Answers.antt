use Rattle.std.proofs.Common.{◌≡◌, ◌+◌, ◌-◌, ◌*◌, length, take, drop, ◌∙◌, arith, length-drop}
use borrow.Rule.Slice.PartMut.{put_mid}
use Rattle.std.proofs.lemmas.List.{length-take-le}
use Rattle.carriers.specs.Memory.{placed}
use Rattle.carriers.specs.Stores.{Released}
use Rattle.carriers.proofs.HeldPlaces.{distinct_retire, numbered_retire}
use Rattle.carriers.proofs.Stores.{place_fits, place_released, written_over}
use Rattle.carriers.proofs.pool.Pool.free.Goals as goal

pub invariant_of-self : goal.invariant_of-self
invariant_of-self g c =
    let s = c.args.self.now.shape in
    let x = c.args.self.now.memory.now in
    let place = c.release.new.place in
    let w = g.P.Places.width s.switches s.nodes in
    let way : c.width.result ≡ w = c.width.ensures ∙ (λ i. g.P.Places.width (c.format.ensures.switches i) (c.format.ensures.nodes i)) in
    let cut : length (take (c.start-at.result + c.width.result - c.start-at.result) (drop c.start-at.result x)) ≡ c.start-at.result + c.width.result - c.start-at.result =
    length-take-le _ (drop c.start-at.result x) (omega (arith, length-drop c.start-at.result x, c.start-at.ensures.room)) in
    let wide : length place ≡ w = omega (arith, cut, c.release.auto.place) in
    let y = put_mid c.start-at.result (c.start-at.result + c.width.result - c.start-at.result) x place in
    let is : y ≡ placed x (c.args.place * w) place = written_over x place c.start-at.result _ _ _ c.start-at.ensures.value way wide in
    let done : Released (g.P.Places.flags s x) (g.P.Places.flags s y) (g.P.Places.copies s x) (g.P.Places.copies s y) s.capacity c.args.place =
    place_released g.P.Places.width g.P.Places.flag g.P.Places.copy g.P.Places.flags g.P.Places.copies g.met.P.Places.flag_there g.met.P.Places.copy_there s x y place c.args.place c.requires c.args.self.now.fitting wide is c.release.ensures in
    record {
      fitting = place_fits g.P.Places.width g.P.Places.flag g.P.Places.copy g.P.Places.flags g.P.Places.copies g.met.P.Places.flag_there g.met.P.Places.copy_there s x y place c.args.place c.requires c.args.self.now.fitting wide is;
      numbered = numbered_retire _ _ _ _ _ _ done.others _ c.args.self.now.numbered done.freed;
      distinct = distinct_retire _ _ _ _ _ _ done.others c.args.self.now.distinct done.freed;
    }

pub returns-clause-places : goal.returns-clause-places
returns-clause-places g c =
    let s = c.args.self.now.shape in
    let x = c.args.self.now.memory.now in
    let place = c.release.new.place in
    let w = g.P.Places.width s.switches s.nodes in
    let way : c.width.result ≡ w = c.width.ensures ∙ (λ i. g.P.Places.width (c.format.ensures.switches i) (c.format.ensures.nodes i)) in
    let cut : length (take (c.start-at.result + c.width.result - c.start-at.result) (drop c.start-at.result x)) ≡ c.start-at.result + c.width.result - c.start-at.result =
    length-take-le _ (drop c.start-at.result x) (omega (arith, length-drop c.start-at.result x, c.start-at.ensures.room)) in
    let wide : length place ≡ w = omega (arith, cut, c.release.auto.place) in
    place_released g.P.Places.width g.P.Places.flag g.P.Places.copy g.P.Places.flags g.P.Places.copies g.met.P.Places.flag_there g.met.P.Places.copy_there s x _ place c.args.place c.requires c.args.self.now.fitting wide (written_over x place c.start-at.result _ _ _ c.start-at.ensures.value way wide) c.release.ensures
