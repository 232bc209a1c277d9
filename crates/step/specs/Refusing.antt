-- A reason to refuse as an answer. Assumes nothing.
use Rattle.std.specs.Prelude.{Some, None, Ok, Err, Option, Result}
use Rattle.table.specs.declared.fault.Reason.{Reason}

-- refused for the reason, if there is one
abbrev pub refused_by : Option Reason → Result (Unit {0}) Reason
refused_by None = Ok tt
refused_by (Some r) = Err r
