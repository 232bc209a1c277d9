-- What working out the words of a block needs, from a sound table. Assumes nothing.
use Rattle.std.proofs.Common.{◌≡◌, ℕ, ◌<◌, true, List, [], length, get_or, refl, ap, ◌∙◌, arith}
use Rattle.table.specs.Tables.{Table, sound}
use Rattle.table.specs.declared.node.Node.{Node}
use Rattle.table.specs.declared.node.Rule.{Rule}
use Rattle.table.proofs.Soundness.{sound_parts}
use Rattle.step.specs.Names.{all_named, names_below, rules_below}
use Rattle.step.proofs.NewWords.{named_at}
use Rattle.step.proofs.TableNames.{sound_named, sound_rules}

module _ (t : Table) (is_sound : sound t ≡ true) where
  -- the rules name nodes of the table
  pub rules_ready : (rs : List Rule) (m : ℕ) → rs ≡ t.rules → m ≡ length t.nodes → rules_below m rs ≡ true
  rules_ready rs m p q =
      ap (λ k. rules_below k rs) q ∙ ap (rules_below (length t.nodes)) p ∙ sound_rules t.switches t.nodes t.rules (sound_parts t is_sound).rules

  -- a node names only what is below it
  pub all_ready : (n : ℕ) (xs : List Node) → n ≡ t.switches → xs ≡ t.nodes → all_named n 0 xs ≡ true
  all_ready n xs p q = (λ i. all_named (p i) 0 (q i)) ∙ sound_named t.switches [] t.nodes (sound_parts t is_sound).nodes

  pub node_ready : (xs : List Node) → xs ≡ t.nodes → (d : Node) (i : ℕ) → i < length xs → names_below t.switches i (get_or xs i d) ≡ true
  node_ready xs q d i lt = named_at t.switches 0 xs d i i lt (omega arith) (all_ready t.switches xs refl q)
