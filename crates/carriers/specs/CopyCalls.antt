-- What the public calls on copies answer and leave. Assumes nothing.
use Rattle.std.specs.Prelude.{ℕ, Bool, cond, ◌&&◌, List, length, is_some, Ok, Err, Result, ◌==◌, nat_lt, slice_index}
use Rattle.step.specs.Records.{hand_length}
use Rattle.table.specs.Delivered.{kind_of}
use Rattle.table.specs.Limits.{max_nodes, max_switches}
use Rattle.table.specs.Wire.{refuse, between}
use Rattle.table.specs.declared.fault.Fault.{Fault}
use Rattle.table.specs.declared.fault.Reason.TheVariants.{Shape, TableField}
use Rattle.carriers.specs.Copies.{copy_length, copy_read}

-- the code of a delivered kind, and numbers of switches and nodes that a table may have
abbrev pub in_range : ℕ → ℕ → Bool
in_range n m = between 1 max_switches n && between 1 max_nodes m

abbrev pub known : ℕ → ℕ → ℕ → Bool
known code n m = is_some (kind_of code) && in_range n m

-- the length of the longest copy
abbrev pub longest_copy : ℕ
longest_copy = copy_length max_switches max_nodes

unfoldable pub check_answer : ℕ → ℕ → ℕ → List ℕ → Result (Unit {0}) Fault
check_answer code n m bs = cond (known code n m) (copy_read code n m bs) (refuse TableField 0)

-- the new value where the call went well, else the old one
abbrev pub after : Result (Unit {0}) Fault → List ℕ → List ℕ → List ℕ
after (Ok u) new old = new
after (Err e) new old = old

abbrev pub read_answer : ℕ → ℕ → ℕ → List ℕ → List ℕ → Result (Unit {0}) Fault
read_answer code n m bs hand = cond (known code n m) (cond (length hand == hand_length n m) (copy_read code n m bs) (refuse Shape 0)) (refuse TableField 0)

abbrev pub writable : ℕ → ℕ → List ℕ → List ℕ → Bool
writable n m hand bs = length hand == hand_length n m && (nat_lt (slice_index hand 0) n && length bs == copy_length n m)

abbrev pub write_answer : ℕ → ℕ → ℕ → List ℕ → List ℕ → Result (Unit {0}) Fault
write_answer code n m hand bs = cond (known code n m) (cond (writable n m hand bs) (Ok tt) (refuse Shape 0)) (refuse TableField 0)
