-- What the parts of a table make of the whole. Assumes nothing.
use Rattle.std.proofs.Common.{◌≡◌, ℕ, List, [], length, Ok, Err, Result, sym, ap, ◌∙◌}
use Rattle.table.specs.Tables.{header_of, nodes_from, nodes_start, rules_of, starts_of, table_front}
use Rattle.table.specs.Wire.{and_then}
use Rattle.table.specs.declared.fault.Fault.{Fault}
use Rattle.table.specs.declared.node.Node.{Node}
use Rattle.table.specs.declared.node.Rule.{Rule}
use Rattle.table.specs.declared.table.parse.Header.{Header}

after : {A B : Type 0} (r : Result A Fault) (f : A → Result B Fault) (x : A) → r ≡ Ok x → and_then r f ≡ f x
after r f x e = ap (λ z. and_then z f) e

stopped : {A B : Type 0} (r : Result A Fault) (f : A → Result B Fault) (e : Fault) → r ≡ Err e → and_then r f ≡ Err e
stopped r f e h = ap (λ z. and_then z f) h

module _ (code : ℕ) (bs : List ℕ) where
  pub front_no_header : (e : Fault) → header_of code bs ≡ Err e → table_front code bs ≡ Err e
  unfolding table_front
  front_no_header e h = stopped (header_of code bs) _ e h

  module _ (head : Header) (header : header_of code bs ≡ Ok head) where
    pub front_no_nodes : (e : Fault) → nodes_from head.switches bs nodes_start head.nodes [] ≡ Err e → table_front code bs ≡ Err e
    unfolding table_front
    front_no_nodes e h = after (header_of code bs) _ head header ∙ stopped (nodes_from head.switches bs nodes_start head.nodes []) _ e h

    module _ (xs : List Node) (nodes : nodes_from head.switches bs nodes_start head.nodes [] ≡ Ok xs) where
      pub front_no_rules : (e : Fault) → rules_of head.switches xs bs ≡ Err e → table_front code bs ≡ Err e
      unfolding table_front
      front_no_rules e h = after (header_of code bs) _ head header ∙ after (nodes_from head.switches bs nodes_start head.nodes []) _ xs nodes ∙ stopped (rules_of head.switches xs bs) _ e h

      module _ (rs : List Rule) (rules : rules_of head.switches xs bs ≡ Ok rs) where
        pub front_no_starts : (e : Fault) → starts_of head.switches (length xs) (length rs) bs ≡ Err e → table_front code bs ≡ Err e
        unfolding table_front
        front_no_starts e h = after (header_of code bs) _ head header ∙ after (nodes_from head.switches bs nodes_start head.nodes []) _ xs nodes ∙ after (rules_of head.switches xs bs) _ rs rules ∙ stopped (starts_of head.switches (length xs) (length rs) bs) _ e h

        pub front_made : (ws : List ℕ) → starts_of head.switches (length xs) (length rs) bs ≡ Ok ws → table_front code bs ≡ Ok (record { code = code; switches = head.switches; nodes = xs; rules = rs; starts = ws })
        unfolding table_front
        front_made ws h = after (header_of code bs) _ head header ∙ after (nodes_from head.switches bs nodes_start head.nodes []) _ xs nodes ∙ after (rules_of head.switches xs bs) _ rs rules ∙ after (starts_of head.switches (length xs) (length rs) bs) _ ws h

-- what a call read of the bytes b, which are bs, and of y, which is x
pub read_at : {A X : Type 0} (F : List ℕ → A → Result X Fault) (b bs : List ℕ) (y x : A) (r : Result X Fault) → b ≡ bs → y ≡ x → r ≡ F b y → F bs x ≡ r
read_at F b bs y x r same item said = ap (λ z. F z x) (sym same) ∙ ap (F b) (sym item) ∙ sym said
