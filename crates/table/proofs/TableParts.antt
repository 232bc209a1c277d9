-- A table's nodes, rules and starting words as arrays of elements. Assumes nothing.
use Rattle.std.proofs.Common.{◌≡◌, ℕ, ◌+◌, ◌^◌, true, ◌&&◌, List, ◌++◌, length, Some, None, Ok, Option, refl, ap, ◌∙◌, subst, arith}
use Rattle.std.proofs.lemmas.Bool.{and_parts, and_from, cond-true, lt-ltb}
use Rattle.table.specs.Nodes.{kind_word, a_word, b_word, node_fits, rule_fits}
use Rattle.table.specs.TableLaws.{Bytes}
use Rattle.table.specs.Tables.{items_from, node_size, rule_size, node_bytes, rule_bytes, is_word, node_holds, nodes_sound, every, judged, node_at, nodes_from, rule_at, rules_from, words_from}
use Rattle.table.specs.Wire.{word_bytes, field}
use Rattle.table.specs.declared.fault.Reason.TheVariants as why
use Rattle.table.specs.declared.node.Node.{Node}
use Rattle.table.specs.declared.node.Rule.{Rule}
use Rattle.table.proofs.Words.{Stands, stands_left, stands_right, stands_append, and_then_parts, and_then_from, cond_parts, field_stands, field_from}
use Rattle.table.proofs.NodeWords.{words_decoded, decoded_words}
use Rattle.table.proofs.Arrays.{Elements}

-- a node that was judged good
judged_parts : (n : ℕ) (earlier : List Node) (i : ℕ) (o : Option Node) (x : Node) → judged n earlier i o ≡ Ok x → (o ≡ Some x) × (node_fits n earlier x ≡ true)
judged_parts n earlier i None x h = let z : ◌≡◌ {A = ℕ} 0 1 = cc in absurd (omega arith)
judged_parts n earlier i (Some y) x h =
    let p = cond_parts _ _ _ _ h in
    (ap Some p.1, subst (λ z. node_fits n earlier z ≡ true) p.1 p.0)

-- three words, one after another
stands_three : (bs : List ℕ) (at k a b : ℕ) → Stands bs at (word_bytes k) → Stands bs (at + 4) (word_bytes a) → Stands bs (at + 4 + 4) (word_bytes b) → Stands bs at (word_bytes k ++ (word_bytes a ++ word_bytes b))
stands_three bs at k a b h g f = stands_append bs at 4 (word_bytes k) _ refl h (stands_append bs (at + 4) 4 (word_bytes a) _ refl g f)

module _ (bs : List ℕ) (bytes : Bytes bs) where
  pub node_only : (n at : ℕ) (earlier : List Node) (x : Node) → node_at n bs at earlier ≡ Ok x → Stands bs at (node_bytes x) × ((node_holds x && node_fits n earlier x) ≡ true)
  node_only n at earlier x h =
      let k = and_then_parts _ _ x h in
      let a = and_then_parts _ _ x k.2 in
      let b = and_then_parts _ _ x a.2 in
      let j = judged_parts n earlier _ _ x b.2 in
      let w = words_decoded k.0 a.0 b.0 x j.0 in
      let kf = field_stands why.TableLength bs at k.0 bytes k.1 in
      let af = field_stands why.TableLength bs (at + 4) a.0 bytes a.1 in
      let bf = field_stands why.TableLength bs (at + 4 + 4) b.0 bytes b.1 in (
        stands_three bs at (kind_word x) (a_word x) (b_word x)
            (subst (λ v. Stands bs at (word_bytes v)) w.kind kf.0)
            (subst (λ v. Stands bs (at + 4) (word_bytes v)) w.first af.0)
            (subst (λ v. Stands bs (at + 4 + 4) (word_bytes v)) w.second bf.0),
        and_from _ _ (w.holds af.1) j.1,
      )

  pub node_all : (n at : ℕ) (earlier : List Node) (x : Node) → Stands bs at (node_bytes x) → (node_holds x && node_fits n earlier x) ≡ true → node_at n bs at earlier ≡ Ok x
  node_all n at earlier x h e =
      let p = and_parts _ _ e in
      let rest = stands_right bs at 4 (word_bytes (kind_word x)) _ refl h in
      and_then_from _ _ (kind_word x) x (field_from why.TableLength bs at _ (stands_left bs at _ _ h))
      (and_then_from _ _ (a_word x) x (field_from why.TableLength bs (at + 4) _ (stands_left bs (at + 4) _ _ rest))
      (and_then_from _ _ (b_word x) x (field_from why.TableLength bs (at + 4 + 4) _ (stands_right bs (at + 4) 4 (word_bytes (a_word x)) _ refl rest))
      (ap (judged n earlier (length earlier)) (decoded_words x p.0) ∙ cond-true _ _ _ p.1)))

  unfoldable pub node_elements : (n : ℕ) → Elements bs Node
  unfolding items_from nodes_sound
  node_elements n = record {
    read = node_at n bs;
    from = nodes_from n bs;
    size = node_size;
    bytes = node_bytes;
    fits = λ earlier x. node_holds x && node_fits n earlier x;
    sounds = nodes_sound n;
    from_none = λ at earlier. refl;
    from_more = λ at count earlier. refl;
    sounds_none = λ earlier. refl;
    sounds_more = λ earlier x xs. refl;
    sized = λ x. refl;
    only = node_only n;
    all = node_all n;
  }

  pub rule_only : (n : ℕ) (nodes : List Node) (at i : ℕ) (x : Rule) → rule_at n nodes bs at i ≡ Ok x → Stands bs at (rule_bytes x) × (rule_fits n nodes x ≡ true)
  rule_only n nodes at i x h =
      let s = and_then_parts _ _ x h in
      let y = and_then_parts _ _ x s.2 in
      let p = cond_parts _ _ _ _ y.2 in
      let sf = field_stands why.TableLength bs at s.0 bytes s.1 in
      let yf = field_stands why.TableLength bs (at + 4) y.0 bytes y.1 in
      subst (λ z. Stands bs at (rule_bytes z) × (rule_fits n nodes z ≡ true)) p.1 (stands_append bs at 4 (word_bytes s.0) _ refl sf.0 yf.0, p.0)

  pub rule_all : (n : ℕ) (nodes : List Node) (at i : ℕ) (x : Rule) → Stands bs at (rule_bytes x) → rule_fits n nodes x ≡ true → rule_at n nodes bs at i ≡ Ok x
  rule_all n nodes at i x h e =
      and_then_from _ _ x.switch x (field_from why.TableLength bs at _ (stands_left bs at _ _ h))
      (and_then_from _ _ x.node x (field_from why.TableLength bs (at + 4) _ (stands_right bs at 4 (word_bytes x.switch) _ refl h))
      (cond-true _ _ _ e))

  unfoldable pub rule_elements : (n : ℕ) (nodes : List Node) → Elements bs Rule
  unfolding items_from
  rule_elements n nodes = record {
    read = λ at earlier. rule_at n nodes bs at (length earlier);
    from = rules_from n nodes bs;
    size = rule_size;
    bytes = rule_bytes;
    fits = λ _ x. rule_fits n nodes x;
    sounds = λ _ xs. every (rule_fits n nodes) xs;
    from_none = λ at earlier. refl;
    from_more = λ at count earlier. refl;
    sounds_none = λ earlier. refl;
    sounds_more = λ earlier x xs. refl;
    sized = λ x. refl;
    only = λ at earlier x. rule_only n nodes at (length earlier) x;
    all = λ at earlier x. rule_all n nodes at (length earlier) x;
  }

  unfoldable pub word_elements : Elements bs ℕ
  unfolding items_from
  word_elements = record {
    read = λ at _. field why.TableLength bs at;
    from = words_from bs;
    size = 4;
    bytes = word_bytes;
    fits = λ _ w. is_word w;
    sounds = λ _ ws. every is_word ws;
    from_none = λ at earlier. refl;
    from_more = λ at count earlier. refl;
    sounds_none = λ earlier. refl;
    sounds_more = λ earlier x xs. refl;
    sized = λ x. refl;
    only = λ at earlier w h. let p = field_stands why.TableLength bs at w bytes h in (p.0, lt-ltb w (2 ^ 32) p.1);
    all = λ at earlier w h _. field_from why.TableLength bs at w h;
  }
