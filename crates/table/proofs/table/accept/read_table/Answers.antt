use Rattle.std.proofs.Common.{◌≡◌, ℕ, ◌+◌, ◌*◌, ◌≤◌, [], List, length, take, is_ok, Ok, sym, refl, ap, ◌∙◌, subst, arith}
use Rattle.std.proofs.lemmas.List.{length-take-le}
use Rattle.std.proofs.lemmas.Result.{err_from_is_err_and}
use Rattle.table.specs.Limits.{register_count}
use Rattle.table.specs.Tables.{Table, header_of, nodes_from, nodes_start, rules_of, starts_of, starts_start, table_front, table_length, words_at}
use Rattle.table.specs.Wire.{filled}
use Rattle.table.proofs.Filling.{slice_bytes}
use Rattle.table.proofs.FrontBytes.{front_same, front_sound, front_coded}
use Rattle.table.proofs.FrontSteps.{front_no_header, front_no_nodes, front_no_rules, front_no_starts, front_made, read_at}
use Rattle.table.proofs.Places.{front_place}
use Rattle.table.proofs.TableCodec.{length_words_at}
use Rattle.table.proofs.TheLaws.{table_laws}
use Rattle.table.proofs.table.accept.read_table.Given as given
use Rattle.table.proofs.table.accept.read_table.Goals as goal
use Rattle.table.proofs.table.accept.read_table.Goals.{After-read_header, After-read_nodes, After-read_all_rules, After-read_starts, After-offset-end}

-- what each call said, of the bytes that were handed in
said_header : (g : given.Over) (c : After-read_header g) → header_of g.K.Reading.CODE c.args.bytes.now ≡ c.read_header.result
said_header g c = read_at {A = ℕ} (λ b a. header_of g.K.Reading.CODE b) _ _ 0 0 _ c.new-reader.ensures.bytes refl c.read_header.ensures.value

said_nodes : (g : given.Over) (c : After-read_nodes g) → nodes_from c.in_ok-header.header.switches c.args.bytes.now nodes_start c.in_ok-header.header.nodes [] ≡ filled c.read_nodes.result c.read_nodes.new.nodes.items
said_nodes g c =
    let next = c.read_header.ensures.reader.bytes ∙ c.new-reader.ensures.bytes in
    let start : c.read_header.new.reader.at ≡ nodes_start = c.read_header.ensures.reader.at (ap is_ok c.in_ok-header.was) ∙ ap (λ k. k + nodes_start) c.new-reader.ensures.at in
    read_at (λ b a. nodes_from c.in_ok-header.header.switches b a c.in_ok-header.header.nodes []) _ _ _ _ _ next start c.read_nodes.ensures.value

said_rules : (g : given.Over) (c : After-read_all_rules g) → rules_of c.in_ok-header.header.switches c.read_nodes.new.nodes.items c.args.bytes.now ≡ filled c.read_all_rules.result c.read_all_rules.new.rules.items
said_rules g c =
    let next = c.read_nodes.ensures.reader.bytes ∙ c.read_header.ensures.reader.bytes ∙ c.new-reader.ensures.bytes in
    read_at (λ b xs. rules_of c.in_ok-header.header.switches xs b) _ _ _ _ _ next c.deref.ensures.0 c.read_all_rules.ensures.value

-- the words that were read past
abbrev words : (g : given.Over) → After-read_starts g → List ℕ
words g c = words_at c.read_all_rules.new.reader.bytes.now (starts_start c.len.result c.len-2.result) (register_count * c.in_ok-header.header.switches)

said_starts : (g : given.Over) (c : After-read_starts g) → starts_of c.in_ok-header.header.switches (length c.read_nodes.new.nodes.items) (length c.read_all_rules.new.rules.items) c.args.bytes.now ≡ filled c.read_starts.result (words g c)
said_starts g c =
    let next = c.read_all_rules.ensures.bytes ∙ c.read_nodes.ensures.reader.bytes ∙ c.read_header.ensures.reader.bytes ∙ c.new-reader.ensures.bytes in
    read_at (λ b (k : ℕ × ℕ). starts_of c.in_ok-header.header.switches k.0 k.1 b) _ _ (c.len.result, c.len-2.result) (length c.read_nodes.new.nodes.items, length c.read_all_rules.new.rules.items) _ next (λ i. (c.len.ensures.value i, c.len-2.ensures.value i)) c.read_starts.ensures.value

pub read_all_rules-requires : goal.read_all_rules-requires
read_all_rules-requires g c =
    let moved = c.read_header.ensures.reader.at (ap is_ok c.in_ok-header.was) in
    let past_nodes = c.read_nodes.ensures.reader.at (ap is_ok c.in_ok-read_nodes.was) in
    omega (arith, moved, past_nodes, c.new-reader.ensures.at, ap length c.deref.ensures.0, c.in_ok-read_nodes.ensures.many)

pub read_starts-requires : goal.read_starts-requires
read_starts-requires g c =
    let moved = c.read_header.ensures.reader.at (ap is_ok c.in_ok-header.was) in
    let past_nodes = c.read_nodes.ensures.reader.at (ap is_ok c.in_ok-read_nodes.was) in
    record {
      after = omega (arith, moved, past_nodes, c.in_ok-read_all_rules.ensures.at, c.new-reader.ensures.at, c.in_ok-read_nodes.ensures.many, c.len.ensures.value, c.len-2.ensures.value);
      few = c.in_ok-header.ensures.range.0;
    }

pub returns-in_err-header : goal.returns-in_err-header
returns-in_err-header g c =
    let p = err_from_is_err_and c.from_residual.result c.from_residual.ensures.1 in
    let header = said_header g (goal.at.returns-in_err-header g c).After-read_header ∙ c.in_err-header.was in
    let stopped = front_no_header _ _ _ header in
    rw (p.1, p.2) (record { value = sym stopped; bytes = tt; inside = tt; laws = table_laws _ _ (slice_bytes _ c.type_inv.bytes); places = front_place _ _ _ stopped })

pub returns-in_err-read_nodes : goal.returns-in_err-read_nodes
returns-in_err-read_nodes g c =
    let p = err_from_is_err_and c.from_residual-in_err-read_nodes.result c.from_residual-in_err-read_nodes.ensures.1 in
    let here = goal.at.returns-in_err-read_nodes g c in
    let header = said_header g here.After-read_header ∙ c.in_ok-header.was in
    let nodes = said_nodes g here.After-read_nodes ∙ ap (λ r. filled r c.read_nodes.new.nodes.items) c.in_err-read_nodes.was in
    let stopped = front_no_nodes _ _ _ header _ nodes in
    rw (p.1, p.2) (record { value = sym stopped; bytes = tt; inside = tt; laws = table_laws _ _ (slice_bytes _ c.type_inv.bytes); places = front_place _ _ _ stopped })

pub returns-in_err-read_all_rules : goal.returns-in_err-read_all_rules
returns-in_err-read_all_rules g c =
    let p = err_from_is_err_and c.from_residual-in_err-read_all_rules.result c.from_residual-in_err-read_all_rules.ensures.1 in
    let here = goal.at.returns-in_err-read_all_rules g c in
    let header = said_header g here.After-read_header ∙ c.in_ok-header.was in
    let nodes = said_nodes g here.After-read_nodes ∙ ap (λ r. filled r c.read_nodes.new.nodes.items) c.in_ok-read_nodes.was in
    let rules = said_rules g here.After-read_all_rules ∙ ap (λ r. filled r c.read_all_rules.new.rules.items) c.in_err-read_all_rules.was in
    let stopped = front_no_rules _ _ _ header _ nodes _ rules in
    rw (p.1, p.2) (record { value = sym stopped; bytes = tt; inside = tt; laws = table_laws _ _ (slice_bytes _ c.type_inv.bytes); places = front_place _ _ _ stopped })

pub returns-in_err-read_starts : goal.returns-in_err-read_starts
returns-in_err-read_starts g c =
    let p = err_from_is_err_and c.from_residual-in_err-read_starts.result c.from_residual-in_err-read_starts.ensures.1 in
    let here = goal.at.returns-in_err-read_starts g c in
    let header = said_header g here.After-read_header ∙ c.in_ok-header.was in
    let nodes = said_nodes g here.After-read_nodes ∙ ap (λ r. filled r c.read_nodes.new.nodes.items) c.in_ok-read_nodes.was in
    let rules = said_rules g here.After-read_all_rules ∙ ap (λ r. filled r c.read_all_rules.new.rules.items) c.in_ok-read_all_rules.was in
    let starts = said_starts g here.After-read_starts ∙ ap (λ r. filled r (words g here.After-read_starts)) c.in_err-read_starts.was in
    let stopped = front_no_starts _ _ _ header _ nodes _ rules _ starts in
    rw (p.1, p.2) (record { value = sym stopped; bytes = tt; inside = tt; laws = table_laws _ _ (slice_bytes _ c.type_inv.bytes); places = front_place _ _ _ stopped })

-- the table that was read, where it ends, and that this is within the input
abbrev made : (g : given.Over) → After-offset-end g → Table
made g c = record {
  code = g.K.Reading.CODE;
  switches = c.in_ok-header.header.switches;
  nodes = c.read_nodes.new.nodes.items;
  rules = c.read_all_rules.new.rules.items;
  starts = words g (goal.at.invariant_of-result g c).After-read_starts;
}

front_is : (g : given.Over) (c : After-offset-end g) → table_front g.K.Reading.CODE c.args.bytes.now ≡ Ok (made g c)
front_is g c =
    let header = said_header g (goal.at.invariant_of-result g c).After-read_header ∙ c.in_ok-header.was in
    let nodes = said_nodes g (goal.at.invariant_of-result g c).After-read_nodes ∙ ap (λ r. filled r c.read_nodes.new.nodes.items) c.in_ok-read_nodes.was in
    let rules = said_rules g (goal.at.invariant_of-result g c).After-read_all_rules ∙ ap (λ r. filled r c.read_all_rules.new.rules.items) c.in_ok-read_all_rules.was in
    let starts = said_starts g (goal.at.invariant_of-result g c).After-read_starts ∙ ap (λ r. filled r (words g (goal.at.invariant_of-result g c).After-read_starts)) c.in_ok-read_starts.was in
    front_made _ _ _ header _ nodes _ rules _ starts

ends : (g : given.Over) (c : After-offset-end g) → c.offset-end.result ≡ starts_start (length c.read_nodes.new.nodes.items) (length c.read_all_rules.new.rules.items) + register_count * c.in_ok-header.header.switches * 4
ends g c =
    let moved = c.read_header.ensures.reader.at (ap is_ok c.in_ok-header.was) in
    let past_nodes = c.read_nodes.ensures.reader.at (ap is_ok c.in_ok-read_nodes.was) in
    let past_starts = c.read_starts.ensures.reader.at (ap is_ok c.in_ok-read_starts.was) in
    omega (arith, moved, past_nodes, c.in_ok-read_all_rules.ensures.at, past_starts, c.new-reader.ensures.at, c.offset-end.ensures, c.in_ok-read_nodes.ensures.many)

whole : (g : given.Over) (c : After-offset-end g) → c.offset-end.result ≡ table_length (made g c)
whole g c = ends g c ∙ ap (λ k. starts_start (length c.read_nodes.new.nodes.items) (length c.read_all_rules.new.rules.items) + k * 4) (sym (length_words_at c.read_all_rules.new.reader.bytes.now (starts_start c.len.result c.len-2.result) (register_count * c.in_ok-header.header.switches)))

within : (g : given.Over) (c : After-offset-end g) → c.offset-end.result ≤ length c.args.bytes.now
within g c =
    let last : c.read_starts.new.reader.bytes.now ≡ c.args.bytes.now = c.read_starts.ensures.reader.bytes ∙ c.read_all_rules.ensures.bytes ∙ c.read_nodes.ensures.reader.bytes ∙ c.read_header.ensures.reader.bytes ∙ c.new-reader.ensures.bytes in
    subst (λ b. c.offset-end.result ≤ length b) last (subst (λ k. k ≤ length c.read_starts.new.reader.bytes.now) (sym c.offset-end.ensures) c.read_starts.new.reader.inside)

pub invariant_of-result : goal.invariant_of-result
invariant_of-result g c =
    let code = g.K.Reading.CODE in
    let bytes = slice_bytes c.args.bytes.now c.type_inv.bytes in
    record {
      few_switches = c.in_ok-header.ensures.range.0;
      few_nodes = omega (arith, c.in_ok-read_nodes.ensures.many, c.in_ok-header.ensures.range.1);
      few_rules = c.in_ok-read_all_rules.ensures.few;
      long = length-take-le _ c.args.bytes.now (within g c) ∙ ends g c;
      fit = front_sound code c.args.bytes.now bytes (made g c) (front_is g c) c.offset-end.result (whole g c);
      coded = front_coded code c.args.bytes.now bytes (made g c) (front_is g c) c.offset-end.result (whole g c);
    }

pub returns : goal.returns
returns g c =
    let read = (goal.at.returns g c).After-offset-end in
    let bytes = slice_bytes c.args.bytes.now read.type_inv.bytes in
    let same = front_same g.K.Reading.CODE c.args.bytes.now bytes (made g read) (front_is g read) c.offset-end.result (whole g read) in
    let length_is : c.offset-end.result ≡ _ = whole g read ∙ ap table_length (sym same) in
    record {
      value = ap Ok same ∙ sym (front_is g read);
      bytes = ap (λ k. take k c.args.bytes.now) length_is;
      inside = subst (λ k. k ≤ length c.args.bytes.now) length_is (within g read);
      laws = table_laws _ _ bytes;
      places = tt;
    }
