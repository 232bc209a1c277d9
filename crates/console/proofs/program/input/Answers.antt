use Rattle.std.proofs.Common.{rules}
use Rattle.console.proofs.program.input.Goals as goal

pub returns-in-Some : goal.returns-in-Some
returns-in-Some c = rw c.in-Some.is (search rules)

pub returns-in-None : goal.returns-in-None
returns-in-None c = rw c.in-None.is (search rules)
