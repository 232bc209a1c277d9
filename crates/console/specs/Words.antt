-- The words of the command line: what each is, and what they ask for together. Assumes nothing.
use Rattle.std.specs.Prelude.{ℕ, Bool, true, false, List, [], ◌∷◌, ◌++◌, Some, None, Ok, Err, string_bytes, codes, Option, Result, String, ◌==◌}
use Rattle.std.specs.declared.alloc.Global.{Global}
use Rattle.console.specs.declared.options.Misuse.{Misuse}
use Rattle.console.specs.declared.options.Misuse.TheVariants.{UnknownOption, SecondFile}
use Rattle.console.specs.declared.options.Options.{Options}

-- a text that begins with `-`
abbrev pub dashed : List ℕ → Bool
dashed [] = false
dashed (b ∷ bs) = b == 45

-- the file, if none is named yet
abbrev pub named : {F : Type 0} → Options F → Option (String Global) → String Global → Result (Options F) Misuse
named o None w = Ok (record { flags = o.flags; file = Some w })
named o (Some v) w = Err (SecondFile w)

-- a word that is no flag
abbrev pub taken_plain : {F : Type 0} → Bool → Options F → String Global → Result (Options F) Misuse
taken_plain true o w = Err (UnknownOption w)
taken_plain false o w = named o o.file w

-- a word, with the flags that it makes if it is one
abbrev pub taken_as : {F : Type 0} → Option F → Options F → String Global → Result (Options F) Misuse
taken_as (Some flags) o w = Ok (record { flags = flags; file = o.file })
taken_as None o w = taken_plain (dashed (string_bytes w)) o w

-- the options o with the word w, where with adds a word to the program's flags
abbrev pub taken : {F : Type 0} → (F → List ℕ → Option F) → Options F → String Global → Result (Options F) Misuse
taken with_word o w = taken_as (with_word o.flags (string_bytes w)) o w

abbrev pub nothing_asked : {F : Type 0} → F → Options F
nothing_asked none = record { flags = none; file = None }

abbrev pub and_then : {A B E : Type 0} → Result A E → (A → Result B E) → Result B E
and_then (Ok x) f = f x
and_then (Err e) f = Err e

-- the options o with the words ws, or the first word that cannot stand there
abbrev pub parsed : {F : Type 0} → (F → List ℕ → Option F) → Options F → List (String Global) → Result (Options F) Misuse
parsed with_word o [] = Ok o
parsed with_word o (w ∷ ws) = and_then (taken with_word o w) (λ more. parsed with_word more ws)

abbrev pub misuse_text : Misuse → List ℕ
misuse_text (UnknownOption w) = codes "unknown option " ++ string_bytes w
misuse_text (SecondFile w) = codes "a second file " ++ string_bytes w
