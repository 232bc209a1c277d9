use denote.Shadow.{shadow}
use denote.Text.{Utf8}
use Rattle.inspect.proofs.PortSteps.{Sofar}
use Rattle.inspect.proofs.value.PortListDisplay.fmt.Given as goal

abbrev pub invariant-loop-port : goal.invariant-loop-port
invariant-loop-port g l =
    shadow (Utf8 l.between) ×
    Sofar g.W.Write.write_str_gives l.initial.f l.f l.self.bits l.port-counter l.between
