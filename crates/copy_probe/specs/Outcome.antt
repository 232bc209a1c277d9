-- What the probes answer. Assumes nothing.
use Rattle.std.specs.Prelude.{ℕ, Ok, Err, Result}
use Rattle.table.specs.Refusals.{number}
use Rattle.table.specs.declared.fault.Fault.{Fault}

-- 0, or the refusal's number
abbrev pub reason_number : Result (Unit {0}) Fault → ℕ
reason_number (Ok u) = 0
reason_number (Err e) = number e.reason
