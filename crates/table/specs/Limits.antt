-- The limits of a rule table. Assumes nothing.
use Rattle.std.specs.Prelude.{ℕ}

abbrev pub max_switches : ℕ
max_switches = 16

abbrev pub max_nodes : ℕ
max_nodes = 48

abbrev pub max_rules : ℕ
max_rules = 16

-- the registers of one switch
abbrev pub register_count : ℕ
register_count = 8
