-- A table that is read from the bytes that it takes of an input. Assumes nothing.
use Rattle.std.proofs.Common.{◌≡◌, ℕ, true, List, take, Ok, sym, ap, ◌∙◌}
use Rattle.table.specs.TableLaws.{Bytes}
use Rattle.table.specs.Tables.{Table, sound, table_bytes, table_front, table_length, table_of}
use Rattle.table.proofs.TableCodec.{accepts_front, take_starts}

module _ (code : ℕ) (bs : List ℕ) (bytes : Bytes bs) (t : Table) (front : table_front code bs ≡ Ok t) (end : ℕ) (whole : end ≡ table_length t) where
  -- the table is the same, read from the bytes that it takes
  pub front_same : table_of (take end bs) t.switches t.nodes t.rules ≡ t
  front_same = ap (λ k. table_of (take k bs) t.switches t.nodes t.rules) whole ∙ sym (take_starts code bs t front)

  pub front_sound : sound (table_of (take end bs) t.switches t.nodes t.rules) ≡ true
  front_sound = ap sound front_same ∙ ((accepts_front code bs bytes).only t front).1

  pub front_coded : table_bytes (table_of (take end bs) t.switches t.nodes t.rules) ≡ take end bs
  front_coded = ap table_bytes front_same ∙ ((accepts_front code bs bytes).only t front).3 ∙ ap (λ k. take k bs) (sym whole)
