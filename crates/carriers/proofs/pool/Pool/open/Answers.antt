use Rattle.std.proofs.Common.{◌≡◌, ◌*◌, ◌/◌, ◌≤◌, false, true, length, refl, sym, ◌∙◌, subst, rules, div-mul-le_self}
use Rattle.std.proofs.lemmas.Bool.{cond-false, cond-true}
use Rattle.carriers.specs.CopyCalls.{in_range}
use Rattle.carriers.proofs.Opening.{closed_meaning, distinct_zero, numbered_zero, opened_meaning}
use Rattle.carriers.proofs.pool.Pool.open.Goals as goal

pub returns-in_default-clause-meaning : goal.returns-in_default-clause-meaning
returns-in_default-clause-meaning g c =
    let out : in_range c.args.switches c.args.nodes ≡ false = search rules in
    closed_meaning _ _ _ _ _ _ _ refl (cond-false _ _ _ out)

pub invariant_of-result-2 : goal.invariant_of-result-2
invariant_of-result-2 g c =
    let switches : c.in-Some.format.switches ≡ c.args.switches = search rules in
    let nodes : c.in-Some.format.nodes ≡ c.args.nodes = search rules in
    let way : c.width.result ≡ g.P.Places.width c.args.switches c.args.nodes = c.width.ensures ∙ (λ i. g.P.Places.width (switches i) (nodes i)) in
    let size = length c.clear.new.memory in
    record {
      fitting = subst (λ w. size / c.width.result * w ≤ size) way (div-mul-le_self size c.width.result);
      numbered = numbered_zero _ _ (λ j. g.met.P.Places.zeros _ _ _ j c.clear.ensures);
      distinct = distinct_zero _ _ (λ j. g.met.P.Places.zeros _ _ _ j c.clear.ensures);
    }

pub returns-clause-meaning : goal.returns-clause-meaning
returns-clause-meaning g c =
    let range : in_range c.args.switches c.args.nodes ≡ true = search rules in
    let switches : c.in-Some.format.switches ≡ c.args.switches = search rules in
    let nodes : c.in-Some.format.nodes ≡ c.args.nodes = search rules in
    let way : c.width.result ≡ g.P.Places.width c.args.switches c.args.nodes = c.width.ensures ∙ (λ i. g.P.Places.width (switches i) (nodes i)) in
    let same : length c.clear.new.memory ≡ length c.args.memory.now = search rules in
    opened_meaning _ _ _ _ _ _ _ ((λ i. same i / way i) ∙ sym (cond-true _ _ _ range)) (λ j. g.met.P.Places.zeros _ _ _ j c.clear.ensures)

pub returns-clause-memory : goal.returns-clause-memory
returns-clause-memory g c =
    let range : in_range c.args.switches c.args.nodes ≡ true = search rules in
    c.clear.ensures ∙ sym (cond-true _ _ _ range)
