-- The laws of rule tables, together. Assumes nothing.
use Rattle.std.proofs.Common.{ℕ, List}
use Rattle.table.specs.TableLaws.{Bytes, TableLaws}
use Rattle.table.proofs.FirstFault.{refuses_first}
use Rattle.table.proofs.TableCodec.{accepts_exactly, accepts_front}

pub table_laws : (code : ℕ) (bs : List ℕ) → Bytes bs → TableLaws code bs
table_laws code bs bytes = record {
  exactly = accepts_exactly code bs bytes;
  front = accepts_front code bs bytes;
  first = refuses_first code bs;
}
