-- Readings as text. Assumes nothing.
use Rattle.std.specs.Prelude.{ℕ, zero, suc, ◌+◌, Bool, true, cond, not, ◌&&◌, List, [], ◌++◌, codes, decimal}
use Rattle.std.specs.Fmt.{signed_decimal}
use Rattle.readings.specs.Numbers.{word_number}
use Rattle.readings.specs.Ports.{has, port_count}
use Rattle.table.specs.declared.kind.Kind.{Kind}
use Rattle.table.specs.declared.kind.Kind.TheVariants.{Numbers, Ports}

-- the port p if it is there, after a comma where it is not the first
abbrev pub port_text : Bool → Bool → ℕ → List ℕ
port_text there first p = cond there (cond first (decimal p) (codes ", " ++ decimal p)) []

-- the ports of the set w among the k from p on
unfoldable pub ports_from : ℕ → ℕ → Bool → ℕ → List ℕ
ports_from w p first zero = []
ports_from w p first (suc k) = port_text (has w p) first p ++ ports_from w (p + 1) (first && not (has w p)) k

-- the set w: its ports from the lowest to the highest
abbrev pub ports_text : ℕ → List ℕ
ports_text w = codes "{" ++ (ports_from w 0 true port_count ++ codes "}")

-- the reading of the word w
abbrev pub value_text : Kind → ℕ → List ℕ
value_text Numbers w = signed_decimal (word_number w).value
value_text Ports w = ports_text w
