-- What a sound table has, part by part. Assumes nothing.
use Rattle.std.proofs.Common.{◌≡◌, ℕ, zero, suc, ◌*◌, ◌^◌, ◌<◌, ◌≤◌, true, false, eqb, List, [], ◌∷◌, ◌++◌, length, get_or, take, subst, append_assoc, append-nil, arith}
use Rattle.std.proofs.lemmas.Bool.{and_parts, and_from, leb-true, eqb-true, ltb-true}
use Rattle.table.specs.Limits.{max_switches, max_nodes, max_rules, register_count}
use Rattle.table.specs.Nodes.{node_fits, rule_fits}
use Rattle.table.specs.Tables.{Table, is_word, node_holds, nodes_sound, every, sound}
use Rattle.table.specs.Wire.{between}
use Rattle.table.specs.declared.node.Node.{Node}
use Rattle.table.specs.declared.node.Node.TheVariants.{Truth}

pub record SoundParts (t : Table) : Type 0 where
  pub code : is_word t.code ≡ true
  pub switches : between 1 max_switches t.switches ≡ true
  pub node_count : between 1 max_nodes (length t.nodes) ≡ true
  pub nodes : nodes_sound t.switches [] t.nodes ≡ true
  pub rule_count : between 0 max_rules (length t.rules) ≡ true
  pub rules : every (rule_fits t.switches t.nodes) t.rules ≡ true
  pub start_count : eqb (length t.starts) (register_count * t.switches) ≡ true
  pub starts : every is_word t.starts ≡ true

pub sound_parts : (t : Table) → sound t ≡ true → SoundParts t
unfolding sound
sound_parts t h =
    let a = and_parts _ _ h in
    let b = and_parts _ _ a.1 in
    let c = and_parts _ _ b.1 in
    let d = and_parts _ _ c.1 in
    let e = and_parts _ _ d.1 in
    let f = and_parts _ _ e.1 in
    let g = and_parts _ _ f.1 in
    record { code = a.0; switches = b.0; node_count = c.0; nodes = d.0; rule_count = e.0; rules = f.0; start_count = g.0; starts = g.1 }

pub parts_sound : (t : Table) → SoundParts t → sound t ≡ true
unfolding sound
parts_sound t p =
    and_from _ _ p.code (and_from _ _ p.switches (and_from _ _ p.node_count (and_from _ _ p.nodes
    (and_from _ _ p.rule_count (and_from _ _ p.rules (and_from _ _ p.start_count p.starts))))))

-- the limits, as orders
pub record SoundLimits (t : Table) : Type 0 where
  pub code : t.code < 2 ^ 32
  pub some_switches : 1 ≤ t.switches
  pub few_switches : t.switches ≤ max_switches
  pub some_nodes : 1 ≤ length t.nodes
  pub few_nodes : length t.nodes ≤ max_nodes
  pub few_rules : length t.rules ≤ max_rules
  pub start_count : length t.starts ≡ register_count * t.switches

pub sound_limits : (t : Table) → SoundParts t → SoundLimits t
sound_limits t p =
    let n = and_parts _ _ p.switches in
    let m = and_parts _ _ p.node_count in
    record {
      code = ltb-true _ _ p.code;
      some_switches = leb-true _ _ n.0;
      few_switches = leb-true _ _ n.1;
      some_nodes = leb-true _ _ m.0;
      few_nodes = leb-true _ _ m.1;
      few_rules = leb-true _ _ (and_parts _ _ p.rule_count).1;
      start_count = eqb-true _ _ p.start_count;
    }

-- a node holds what it may, and fits after the nodes of earlier
pub record NodeSound (n : ℕ) (earlier : List Node) (x : Node) : Type 0 where
  pub holds : node_holds x ≡ true
  pub fits : node_fits n earlier x ≡ true

nodes_after : (n : ℕ) (xs earlier : List Node) → nodes_sound n earlier xs ≡ true → (i : ℕ) → i < length xs → NodeSound n (earlier ++ take i xs) (get_or xs i (Truth false))
unfolding nodes_sound
nodes_after n [] earlier h i l = absurd (omega arith)
nodes_after n (x ∷ xs) earlier h zero l =
    let p = and_parts _ _ (and_parts _ _ h).0 in
    record { holds = p.0; fits = rw (append-nil earlier) p.1 }
nodes_after n (x ∷ xs) earlier h (suc i) l =
    subst (λ ys. NodeSound n ys (get_or xs i (Truth false))) (append_assoc earlier (x ∷ []) (take i xs)) (nodes_after n xs (earlier ++ x ∷ []) (and_parts _ _ h).1 i (omega arith))

pub nodes_at : (n : ℕ) (xs : List Node) → nodes_sound n [] xs ≡ true → (i : ℕ) → i < length xs → NodeSound n (take i xs) (get_or xs i (Truth false))
nodes_at n xs h i l = nodes_after n xs [] h i l
