-- Reading a table's bytes and writing them undo each other. Assumes nothing.
use Rattle.std.proofs.Common.{◌≡◌, ℕ, zero, suc, ◌+◌, ◌*◌, ◌^◌, ◌≤◌, true, eqb, List, [], ◌∷◌, ◌++◌, length, take, Ok, sym, refl, ap, ◌∙◌, subst, append_assoc, append-nil, arith, length-append}
use Rattle.std.specs.List.{flat_map}
use Rattle.std.proofs.lemmas.List.{take_all, get_or-take}
use Rattle.std.proofs.lemmas.Bool.{eqb-true, eq-eqb, lt-ltb, cond-true}
use Rattle.table.specs.Limits.{max_switches, max_nodes, max_rules, register_count}
use Rattle.table.specs.TableLaws.{Bytes, AcceptsExactly, AcceptsFront}
use Rattle.table.specs.Tables.{Table, items_from, node_size, rule_size, nodes_start, rules_start, starts_start, node_bytes, rule_bytes, array_bytes, table_bytes, is_word, tested, nodes_from, rules_from, words_from, header_of, rules_of, starts_of, table_front, table_length, table_alone, words_at, table_of}
use Rattle.table.specs.Wire.{word_at, word_bytes, field, between}
use Rattle.table.specs.declared.fault.Reason.TheVariants as why
use Rattle.table.specs.declared.node.Node.{Node}
use Rattle.table.specs.declared.node.Rule.{Rule}
use Rattle.table.specs.declared.table.parse.Header.{Header}
use Rattle.table.proofs.Words.{Stands, stands_left, stands_right, stands_append, stands_at, stands_front, front_stands, and_then_parts, and_then_from, cond_parts, ok_same, field_parts, field_stands, tested_parts, tested_from}
use Rattle.table.proofs.Arrays.{length_joined, array_only, array_all}
use Rattle.table.proofs.TableParts.{node_elements, rule_elements, word_elements}
use Rattle.table.proofs.Soundness.{SoundParts, sound_parts, parts_sound}

-- Where the parts of a table stand

pub record Laid (bs : List ℕ) (t : Table) : Type 0 where
  pub code : Stands bs 0 (word_bytes t.code)
  pub switches : Stands bs 4 (word_bytes t.switches)
  pub node_count : Stands bs 8 (word_bytes (length t.nodes))
  pub nodes : Stands bs nodes_start (flat_map node_bytes t.nodes)
  pub rule_count : Stands bs (nodes_start + length t.nodes * node_size) (word_bytes (length t.rules))
  pub rules : Stands bs (rules_start (length t.nodes)) (flat_map rule_bytes t.rules)
  pub start_count : Stands bs (rules_start (length t.nodes) + length t.rules * rule_size) (word_bytes (length t.starts))
  pub starts : Stands bs (starts_start (length t.nodes) (length t.rules)) (flat_map word_bytes t.starts)

node_lengths : (xs : List Node) → length (flat_map node_bytes xs) ≡ length xs * node_size
node_lengths = length_joined node_bytes node_size (λ x. refl)

rule_lengths : (xs : List Rule) → length (flat_map rule_bytes xs) ≡ length xs * rule_size
rule_lengths = length_joined rule_bytes rule_size (λ x. refl)

word_lengths : (ws : List ℕ) → length (flat_map word_bytes ws) ≡ length ws * 4
word_lengths = length_joined word_bytes 4 (λ x. refl)

-- the bytes of an array, and then rest
module _ {X : Type 0} (f : X → List ℕ) (size : ℕ) (sized : (x : X) → length (f x) ≡ size) (bs : List ℕ) (at : ℕ) (xs : List X) (rest : List ℕ) where
  length_array : length (array_bytes f xs) ≡ 4 + length xs * size
  length_array = omega (arith, length_joined f size sized xs)

  array_stands : Stands bs at (word_bytes (length xs)) → Stands bs (at + 4) (flat_map f xs) → Stands bs (at + 4 + length xs * size) rest → Stands bs at (array_bytes f xs ++ rest)
  array_stands h g r =
      stands_append bs at (4 + length xs * size) (array_bytes f xs) rest length_array (stands_append bs at 4 (word_bytes (length xs)) (flat_map f xs) refl h g)
      (stands_at bs _ _ rest (omega arith) r)

  stands_array : Stands bs at (array_bytes f xs ++ rest) → Stands bs at (word_bytes (length xs)) × Stands bs (at + 4) (flat_map f xs) × Stands bs (at + 4 + length xs * size) rest
  stands_array h =
      let a = stands_left bs at (array_bytes f xs) rest h in (
        stands_left bs at (word_bytes (length xs)) _ a,
        stands_right bs at 4 (word_bytes (length xs)) _ refl a,
        stands_at bs _ _ rest (omega arith) (stands_right bs at (4 + length xs * size) (array_bytes f xs) rest length_array h),
      )

pub laid_stands : (bs : List ℕ) (t : Table) → Laid bs t → Stands bs 0 (table_bytes t)
unfolding table_bytes
laid_stands bs t l =
    stands_append bs 0 4 (word_bytes t.code) _ refl l.code
    (stands_append bs 4 4 (word_bytes t.switches) _ refl l.switches
    (array_stands node_bytes node_size (λ x. refl) bs 8 t.nodes _ l.node_count l.nodes
    (array_stands rule_bytes rule_size (λ x. refl) bs _ t.rules _ l.rule_count l.rules
    (stands_append bs _ 4 (word_bytes (length t.starts)) _ refl l.start_count l.starts))))

pub stands_laid : (bs : List ℕ) (t : Table) → Stands bs 0 (table_bytes t) → Laid bs t
unfolding table_bytes
stands_laid bs t h =
    let after_code = stands_right bs 0 4 (word_bytes t.code) _ refl h in
    let after_switches = stands_right bs 4 4 (word_bytes t.switches) _ refl after_code in
    let xs = stands_array node_bytes node_size (λ x. refl) bs 8 t.nodes _ after_switches in
    let rs = stands_array rule_bytes rule_size (λ x. refl) bs _ t.rules _ xs.2 in
    record {
      code = stands_left bs 0 (word_bytes t.code) _ h;
      switches = stands_left bs 4 (word_bytes t.switches) _ after_code;
      node_count = xs.0;
      nodes = xs.1;
      rule_count = rs.0;
      rules = rs.1;
      start_count = stands_left bs _ (word_bytes (length t.starts)) _ rs.2;
      starts = stands_right bs _ 4 (word_bytes (length t.starts)) _ refl rs.2;
    }

pub length_table : (t : Table) → length (table_bytes t) ≡ table_length t
unfolding table_bytes
length_table t =
    simp length-append (omega (arith, node_lengths t.nodes, rule_lengths t.rules, word_lengths t.starts))

-- The front of longer bytes

-- what was read on the way to the table t
pub record Steps (code : ℕ) (bs : List ℕ) (t : Table) : Type 0 where
  pub code_is : t.code ≡ code
  pub code_field : field why.TableLength bs 0 ≡ Ok code
  pub switches_field : field why.TableLength bs 4 ≡ Ok t.switches
  pub switches_fit : between 1 max_switches t.switches ≡ true
  pub node_count : ℕ
  pub node_count_field : field why.TableLength bs 8 ≡ Ok node_count
  pub node_count_fits : between 1 max_nodes node_count ≡ true
  pub nodes : nodes_from t.switches bs nodes_start node_count [] ≡ Ok t.nodes
  pub rule_count : ℕ
  pub rule_count_field : field why.TableLength bs (nodes_start + length t.nodes * node_size) ≡ Ok rule_count
  pub rule_count_fits : between 0 max_rules rule_count ≡ true
  pub rules : rules_from t.switches t.nodes bs (rules_start (length t.nodes)) rule_count [] ≡ Ok t.rules
  pub start_count_field : field why.TableLength bs (rules_start (length t.nodes) + length t.rules * rule_size) ≡ Ok (register_count * t.switches)
  pub starts : words_from bs (starts_start (length t.nodes) (length t.rules)) (register_count * t.switches) [] ≡ Ok t.starts

module _ (code : ℕ) (bs : List ℕ) where
  header_steps : (h : Header) → header_of code bs ≡ Ok h →
      (field why.TableLength bs 0 ≡ Ok code) × (field why.TableLength bs 4 ≡ Ok h.switches) × (between 1 max_switches h.switches ≡ true)
      × (field why.TableLength bs 8 ≡ Ok h.nodes) × (between 1 max_nodes h.nodes ≡ true)
  header_steps h e =
      let c = and_then_parts (tested (λ w. eqb w code) bs 0) _ h e in
      let n = and_then_parts (tested (between 1 max_switches) bs 4) _ h c.2 in
      let m = and_then_parts (tested (between 1 max_nodes) bs 8) _ h n.2 in
      let cp = tested_parts (λ w. eqb w code) bs 0 c.0 c.1 in
      let np = tested_parts (between 1 max_switches) bs 4 n.0 n.1 in
      let mp = tested_parts (between 1 max_nodes) bs 8 m.0 m.1 in
      let same = ok_same _ _ m.2 in (
        cp.0 ∙ ap Ok (eqb-true c.0 code cp.1),
        np.0 ∙ ap (λ g. Ok g.switches) same,
        subst (λ g. between 1 max_switches g.switches ≡ true) same np.1,
        mp.0 ∙ ap (λ g. Ok g.nodes) same,
        subst (λ g. between 1 max_nodes g.nodes ≡ true) same mp.1,
      )

  rules_steps : (n : ℕ) (xs : List Node) (rs : List Rule) → rules_of n xs bs ≡ Ok rs →
      (r : ℕ) × (field why.TableLength bs (nodes_start + length xs * node_size) ≡ Ok r) × (between 0 max_rules r ≡ true) × (rules_from n xs bs (rules_start (length xs)) r [] ≡ Ok rs)
  rules_steps n xs rs e =
      let r = and_then_parts (tested (between 0 max_rules) bs (nodes_start + length xs * node_size)) _ rs e in
      let p = tested_parts (between 0 max_rules) bs (nodes_start + length xs * node_size) r.0 r.1 in
      (r.0, p.0, p.1, r.2)

  starts_steps : (n m r : ℕ) (ws : List ℕ) → starts_of n m r bs ≡ Ok ws →
      (field why.TableLength bs (rules_start m + r * rule_size) ≡ Ok (register_count * n)) × (words_from bs (starts_start m r) (register_count * n) [] ≡ Ok ws)
  starts_steps n m r ws e =
      let w = and_then_parts (tested (λ w. eqb w (register_count * n)) bs (rules_start m + r * rule_size)) _ ws e in
      let p = tested_parts (λ w. eqb w (register_count * n)) bs (rules_start m + r * rule_size) w.0 w.1 in
      let same = eqb-true w.0 (register_count * n) p.1 in
      (p.0 ∙ ap Ok same, subst (λ v. words_from bs (starts_start m r) v [] ≡ Ok ws) same w.2)

  pub front_steps : (t : Table) → table_front code bs ≡ Ok t → Steps code bs t
  unfolding table_front
  front_steps t e =
      let h = and_then_parts (header_of code bs) _ t e in
      let xs = and_then_parts (nodes_from h.0.switches bs nodes_start h.0.nodes []) _ t h.2 in
      let rs = and_then_parts (rules_of h.0.switches xs.0 bs) _ t xs.2 in
      let ws = and_then_parts (starts_of h.0.switches (length xs.0) (length rs.0) bs) _ t rs.2 in
      let hs = header_steps h.0 h.1 in
      let r = rules_steps h.0.switches xs.0 rs.0 rs.1 in
      let w = starts_steps h.0.switches (length xs.0) (length rs.0) ws.0 ws.1 in
      subst (Steps code bs) (ok_same _ _ ws.2) record {
        code_is = refl;
        code_field = hs.0;
        switches_field = hs.1;
        switches_fit = hs.2;
        node_count = h.0.nodes;
        node_count_field = hs.3;
        node_count_fits = hs.4;
        nodes = xs.1;
        rule_count = r.0;
        rule_count_field = r.1;
        rule_count_fits = r.2;
        rules = r.3;
        start_count_field = w.0;
        starts = w.1;
      }

  pub alone_steps : (t : Table) → table_alone code bs ≡ Ok t → (table_front code bs ≡ Ok t) × (table_length t ≡ length bs)
  alone_steps t e =
      let p = and_then_parts (table_front code bs) _ t e in
      let q = cond_parts _ _ _ _ p.2 in
      (p.1 ∙ ap Ok q.1, subst (λ u. table_length u ≡ length bs) q.1 (eqb-true _ _ q.0))

module _ (code : ℕ) (bs : List ℕ) (bytes : Bytes bs) where
  pub front_only : (t : Table) → table_front code bs ≡ Ok t → Laid bs t × SoundParts t
  unfolding node_elements rule_elements word_elements
  front_only t e =
      let s = front_steps code bs t e in
      let c = field_stands why.TableLength bs 0 code bytes s.code_field in
      let n = field_stands why.TableLength bs 4 t.switches bytes s.switches_field in
      let m = field_stands why.TableLength bs 8 s.node_count bytes s.node_count_field in
      let xs = array_only (node_elements bs bytes t.switches) s.node_count nodes_start t.nodes m.0.room s.nodes in
      let r = field_stands why.TableLength bs (nodes_start + length t.nodes * node_size) s.rule_count bytes s.rule_count_field in
      let rs = array_only (rule_elements bs bytes t.switches t.nodes) s.rule_count (rules_start (length t.nodes)) t.rules r.0.room s.rules in
      let w = field_stands why.TableLength bs (rules_start (length t.nodes) + length t.rules * rule_size) (register_count * t.switches) bytes s.start_count_field in
      let ws = array_only (word_elements bs bytes) (register_count * t.switches) (starts_start (length t.nodes) (length t.rules)) t.starts w.0.room s.starts in (
        record {
          code = subst (λ v. Stands bs 0 (word_bytes v)) (sym s.code_is) c.0;
          switches = n.0;
          node_count = subst (λ v. Stands bs 8 (word_bytes v)) (sym xs.0) m.0;
          nodes = xs.1.stands;
          rule_count = subst (λ v. Stands bs (nodes_start + length t.nodes * node_size) (word_bytes v)) (sym rs.0) r.0;
          rules = rs.1.stands;
          start_count = subst (λ v. Stands bs (rules_start (length t.nodes) + length t.rules * rule_size) (word_bytes v)) (sym ws.0) w.0;
          starts = ws.1.stands;
        },
        record {
          code = subst (λ v. is_word v ≡ true) (sym s.code_is) (lt-ltb code (2 ^ 32) c.1);
          switches = s.switches_fit;
          node_count = subst (λ v. between 1 max_nodes v ≡ true) (sym xs.0) s.node_count_fits;
          nodes = xs.1.sound;
          rule_count = subst (λ v. between 0 max_rules v ≡ true) (sym rs.0) s.rule_count_fits;
          rules = rs.1.sound;
          start_count = eq-eqb _ _ ws.0;
          starts = ws.1.sound;
        },
      )

  pub front_all : (t : Table) → t.code ≡ code → Laid bs t → SoundParts t → table_front code bs ≡ Ok t
  unfolding table_front node_elements rule_elements word_elements
  front_all t e l s =
      and_then_from (header_of code bs) _ (record { switches = t.switches; nodes = length t.nodes }) t
      (and_then_from (tested (λ w. eqb w code) bs 0) _ t.code _ (tested_from (λ w. eqb w code) bs 0 t.code l.code (eq-eqb t.code code e))
      (and_then_from (tested (between 1 max_switches) bs 4) _ t.switches _ (tested_from (between 1 max_switches) bs 4 t.switches l.switches s.switches)
      (and_then_from (tested (between 1 max_nodes) bs 8) _ (length t.nodes) _ (tested_from (between 1 max_nodes) bs 8 (length t.nodes) l.node_count s.node_count)
      refl)))
      (and_then_from (nodes_from t.switches bs nodes_start (length t.nodes) []) _ t.nodes t
      (array_all (node_elements bs bytes t.switches) t.nodes nodes_start (record { stands = l.nodes; sound = s.nodes }))
      (and_then_from (rules_of t.switches t.nodes bs) _ t.rules t
      (and_then_from (tested (between 0 max_rules) bs (nodes_start + length t.nodes * node_size)) _ (length t.rules) _ (tested_from (between 0 max_rules) bs _ (length t.rules) l.rule_count s.rule_count)
      (array_all (rule_elements bs bytes t.switches t.nodes) t.rules (rules_start (length t.nodes)) (record { stands = l.rules; sound = s.rules })))
      (and_then_from (starts_of t.switches (length t.nodes) (length t.rules) bs) _ t.starts t
      (and_then_from (tested (λ w. eqb w (register_count * t.switches)) bs (rules_start (length t.nodes) + length t.rules * rule_size)) _ (length t.starts) _
      (tested_from (λ w. eqb w (register_count * t.switches)) bs _ (length t.starts) l.start_count s.start_count)
      (array_all (word_elements bs bytes) t.starts (starts_start (length t.nodes) (length t.rules)) (record { stands = l.starts; sound = s.starts })))
      (ap (λ c. Ok record { code = c; switches = t.switches; nodes = t.nodes; rules = t.rules; starts = t.starts }) (sym e)))))

pub accepts_front : (code : ℕ) (bs : List ℕ) → Bytes bs → AcceptsFront code bs
accepts_front code bs bytes = record {
  only = λ t e.
      let p = front_only code bs bytes t e in
      let s = laid_stands bs t p.0 in
      ((front_steps code bs t e).code_is, parts_sound t p.1, omega (arith, s.room, length_table t), front_stands bs (table_bytes t) s ∙ ap (λ n. take n bs) (length_table t));
  all = λ t rest c s e.
      front_all code bs bytes t c (stands_laid bs t (subst (λ ys. Stands ys 0 (table_bytes t)) (sym e) (stands_front (table_bytes t) rest))) (sound_parts t s);
}

pub accepts_exactly : (code : ℕ) (bs : List ℕ) → Bytes bs → AcceptsExactly code bs
accepts_exactly code bs bytes = record {
  only = λ t e.
      let p = alone_steps code bs t e in
      let f = (accepts_front code bs bytes).only t p.0 in
      (f.0, f.1, f.3 ∙ take_all (table_length t) bs (omega (arith, p.1)));
  all = λ t c s e.
      and_then_from (table_front code bs) _ t t ((accepts_front code bs bytes).all t [] c s (sym e ∙ sym (append-nil (table_bytes t))))
      (cond-true _ _ _ (eq-eqb (table_length t) (length bs) (sym (length_table t) ∙ ap length e)));
}

-- The starting words where they stand

words_read : (bs : List ℕ) (count at : ℕ) (earlier ws : List ℕ) → words_from bs at count earlier ≡ Ok ws → ws ≡ earlier ++ words_at bs at count
unfolding items_from words_at
words_read bs zero at earlier ws e = sym (ok_same _ _ e) ∙ sym (append-nil earlier)
words_read bs (suc count) at earlier ws e =
    let p = and_then_parts (field why.TableLength bs at) _ ws e in
    let f = field_parts why.TableLength bs at p.0 p.1 in
    words_read bs count (at + 4) (earlier ++ p.0 ∷ []) ws p.2 ∙ append_assoc earlier (p.0 ∷ []) _ ∙ ap (λ w. earlier ++ w ∷ words_at bs (at + 4) count) (sym f.1)

pub length_words_at : (bs : List ℕ) (at count : ℕ) → length (words_at bs at count) ≡ count
unfolding words_at
length_words_at bs at zero = refl
length_words_at bs at (suc count) = ap suc (length_words_at bs (at + 4) count)

pub word_take : (n : ℕ) (bs : List ℕ) (i : ℕ) → i + 4 ≤ n → word_at (take n bs) i ≡ word_at bs i
unfolding word_at
word_take n bs i h =
    let a = get_or-take n bs i 0 (omega arith) in
    let b = get_or-take n bs (i + 1) 0 (omega arith) in
    let c = get_or-take n bs (i + 2) 0 (omega arith) in
    let d = get_or-take n bs (i + 3) 0 (omega arith) in
    omega arith

pub words_take : (n : ℕ) (bs : List ℕ) (at count : ℕ) → at + count * 4 ≤ n → words_at (take n bs) at count ≡ words_at bs at count
unfolding words_at
words_take n bs at zero h = refl
words_take n bs at (suc count) h =
    let a = word_take n bs at (omega arith) in
    let b = words_take n bs (at + 4) count (omega arith) in
    cc

same_table : (t : Table) (c : ℕ) (ws : List ℕ) → t.code ≡ c → t.starts ≡ ws → t ≡ record { code = c; switches = t.switches; nodes = t.nodes; rules = t.rules; starts = ws }
same_table t c ws e f =
    ap (λ v. record { code = v; switches = t.switches; nodes = t.nodes; rules = t.rules; starts = t.starts }) e
    ∙ ap (λ vs. record { code = c; switches = t.switches; nodes = t.nodes; rules = t.rules; starts = vs }) f

module _ (code : ℕ) (bs : List ℕ) (t : Table) (e : table_front code bs ≡ Ok t) where
  pub front_code : t.code ≡ word_at bs 0
  front_code = let s = front_steps code bs t e in s.code_is ∙ sym (field_parts why.TableLength bs 0 code s.code_field).1

  pub front_words : t.starts ≡ words_at bs (starts_start (length t.nodes) (length t.rules)) (register_count * t.switches)
  front_words = words_read bs (register_count * t.switches) _ [] t.starts (front_steps code bs t e).starts

  pub front_starts : t ≡ table_of bs t.switches t.nodes t.rules
  front_starts = same_table t _ _ front_code front_words

  -- the same of the table's own bytes
  pub take_starts : t ≡ table_of (take (table_length t) bs) t.switches t.nodes t.rules
  take_starts =
      let l : length t.starts ≡ register_count * t.switches = ap length front_words ∙ length_words_at bs _ _ in
      same_table t _ _
      (front_code ∙ sym (word_take (table_length t) bs 0 (omega arith)))
      (front_words ∙ sym (words_take (table_length t) bs (starts_start (length t.nodes) (length t.rules)) (register_count * t.switches) (omega arith)))
