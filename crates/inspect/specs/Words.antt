-- The flags of the command line. Assumes nothing.
use Rattle.std.specs.Prelude.{ℕ, true, false, cond, List, Some, None, codes, Option}
use Rattle.std.specs.Str.{bytes_eq}
use Rattle.inspect.specs.declared.flags.Flags.{Flags}

abbrev pub no_flags : Flags
no_flags = record { print = false; opening = false }

-- the flags f and the one that the word names, if it names one
abbrev pub with_word : Flags → List ℕ → Option Flags
with_word f bs =
    cond (bytes_eq bs (codes "--print")) (Some (record { print = true; opening = f.opening }))
    (cond (bytes_eq bs (codes "--opening")) (Some (record { print = f.print; opening = true })) None)
