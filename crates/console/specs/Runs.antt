-- How a program's run fails. Assumes nothing.
use Rattle.std.specs.Prelude.{Some, None, Option, String}
use Rattle.std.specs.declared.alloc.Global.{Global}
use Rattle.std.specs.declared.io.Error.{Error}
use Rattle.console.specs.declared.failure.Failure.{Failure}
use Rattle.console.specs.declared.failure.Failure.TheVariants.{File, Input}

-- the input that could not be read: that file, or standard input
abbrev pub unread : Option (String Global) → Error → Failure
unread (Some name) e = File name e
unread None e = Input e
