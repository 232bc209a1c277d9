use Rattle.std.proofs.Common.{◌*◌, ◌%◌, ◌<◌, length, sym, ap, subst, mod-lt}
use Rattle.table.specs.Views.{view}
use Rattle.listing.proofs.LookSteps.{some_nodes, some_pairs, some_switches}
use Rattle.listing.proofs.rehearsal.Place.of_entry.Goals as goal

pub nonzero_div-result : goal.nonzero_div-result
nonzero_div-result c =
    let nodes = ap length c.nodes-nodes.ensures.value in
    subst (λ n. 0 < n) (sym (λ i. c.switches-switches.ensures.value i * nodes i)) (some_pairs (view c.args.table.now) c.args.table.now.fit)

pub nonzero_div-result-2 : goal.nonzero_div-result-2
nonzero_div-result-2 c = subst (λ xs. 0 < length xs) (sym c.nodes-nodes.ensures.value) (some_nodes (view c.args.table.now) c.args.table.now.fit)

pub nonzero_rem-result : goal.nonzero_rem-result
nonzero_rem-result c = subst (λ n. 0 < n) (sym c.switches-switches.ensures.value) (some_switches (view c.args.table.now) c.args.table.now.fit)

pub nonzero_rem-result-2 : goal.nonzero_rem-result-2
nonzero_rem-result-2 c = subst (λ xs. 0 < length xs) (sym c.nodes-nodes.ensures.value) (some_nodes (view c.args.table.now) c.args.table.now.fit)

pub returns-clause-node : goal.returns-clause-node
returns-clause-node c =
    subst (λ xs. c.args.i % length xs < length (view c.args.table.now).nodes) (sym c.nodes-nodes.ensures.value)
    (mod-lt c.args.i (some_nodes (view c.args.table.now) c.args.table.now.fit))
