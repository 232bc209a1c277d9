-- What the words of a record and of a sound table are. Assumes nothing.
use Rattle.std.proofs.Common.{◌≡◌, ℕ, ◌+◌, ◌*◌, ◌^◌, ◌<◌, true, false, List, [], ◌∷◌, length, get_or, take, drop, ap, ◌∙◌, arith, ltb-true}
use Rattle.std.proofs.lemmas.Bool.{and_parts}
use Rattle.std.proofs.ByRecursion.{All-from_get_or, All-get_or, All-take, All-drop}
use Rattle.std.proofs.lemmas.List.{get_or-take, get_or-drop}
use Rattle.std.specs.List.{AllByRecursion}
use Rattle.table.specs.Limits.{register_count}
use Rattle.table.specs.Tables.{Table, sound, node_holds, every, is_word}
use Rattle.table.specs.declared.node.Node.{Node}
use Rattle.table.specs.declared.node.Node.TheVariants.{Truth}
use Rattle.table.proofs.Soundness.{sound_parts, nodes_at}
use Rattle.step.specs.Nodes.{word_in}
use Rattle.step.specs.Opening.{start_registers}
use Rattle.step.specs.Records.{record_start}
use Rattle.step.specs.StepLaws.{Words, record_words}

-- word b of record j
pub record_word : (m : ℕ) (block : List ℕ) (j b : ℕ) → b < m → get_or (record_words m block j) b 0 ≡ word_in m block j b
record_word m block j b lt =
    let place : record_start m j + (1 + b) ≡ record_start m j + 1 + b = omega arith in
    get_or-drop 1 (take (m + 1) (drop (record_start m j) block)) b 0
    ∙ get_or-take (m + 1) (drop (record_start m j) block) (1 + b) 0 (omega arith)
    ∙ get_or-drop (record_start m j) block (1 + b) 0
    ∙ ap (λ p. get_or block p 0) place

words_all : (ws : List ℕ) → every is_word ws ≡ true → Words ws
words_all [] h = tt
words_all (w ∷ ws) h = (ltb-true _ _ (and_parts _ _ h).0, words_all ws (and_parts _ _ h).1)

module _ (t : Table) (is_sound : sound t ≡ true) where
  pub all_hold : AllByRecursion (λ x. node_holds x ≡ true) t.nodes
  all_hold = All-from_get_or (λ x. node_holds x ≡ true) t.nodes (Truth false) (λ i lt. (nodes_at t.switches t.nodes (sound_parts t is_sound).nodes i lt).holds)

  pub node_hold : (i : ℕ) (d : Node) → i < length t.nodes → node_holds (get_or t.nodes i d) ≡ true
  node_hold i d lt = All-get_or (λ x. node_holds x ≡ true) t.nodes i d lt all_hold

  pub start_words : (j : ℕ) → Words (start_registers t j)
  start_words j =
      All-take (λ w. w < 2 ^ 32) register_count _ (All-drop (λ w. w < 2 ^ 32) (j * register_count) t.starts (words_all t.starts (sound_parts t is_sound).starts))
