-- The delivered kinds of reading, picked by a table's code. Assumes nothing.
use Rattle.std.specs.Prelude.{ℕ, cond, List, Some, None, Ok, Err, Option, Result, ◌==◌}
use Rattle.std.specs.Option.{ok_or}
use Rattle.readings.specs.Numbers.{number_code}
use Rattle.readings.specs.Ports.{port_code}
use Rattle.table.specs.Refusals.{answer}
use Rattle.table.specs.Tables.{Table, table_alone, table_front}
use Rattle.table.specs.Wire.{and_then, field, refuse}
use Rattle.table.specs.declared.fault.Fault.{Fault}
use Rattle.table.specs.declared.fault.Reason.{Reason}
use Rattle.table.specs.declared.fault.Reason.TheVariants as why
use Rattle.table.specs.declared.kind.Kind.{Kind}
use Rattle.table.specs.declared.kind.Kind.TheVariants.{Numbers, Ports}

abbrev pub kind_code : Kind → ℕ
kind_code Numbers = number_code
kind_code Ports = port_code

abbrev pub kind_of : ℕ → Option Kind
kind_of code = cond (code == number_code) (Some Numbers) (cond (code == port_code) (Some Ports) None)

abbrev pub or_foreign : Option Kind → Result Kind Fault
or_foreign None = refuse why.TableField 0
or_foreign (Some k) = Ok k

-- the kind with this code, or why there is none
abbrev pub named_by : ℕ → Result Kind Reason
named_by code = ok_or (kind_of code) why.TableField

-- the kind that the first field names; a code of no kind is foreign
abbrev pub named_kind : List ℕ → Result Kind Fault
named_kind bs = and_then (field why.TableLength bs 0) (λ code. or_foreign (kind_of code))

-- the table that is all of bs, of the kind that its first field names
abbrev pub delivered : List ℕ → Result Table Fault
delivered bs = and_then (named_kind bs) (λ k. table_alone (kind_code k) bs)

-- the table at the front of bs, likewise
abbrev pub delivered_front : List ℕ → Result Table Fault
delivered_front bs = and_then (named_kind bs) (λ k. table_front (kind_code k) bs)

-- the answer of a call for C: 0, or the refusal
abbrev pub packed : {A : Type 0} → Result A Fault → ℕ
packed (Ok x) = 0
packed (Err e) = answer e
