-- What an event in the code stands for. Assumes nothing.
use Rattle.step.specs.Steps as steps
use Rattle.step.specs.declared.step.Event.{Event}
use Rattle.step.specs.declared.step.Event.TheVariants.{Set, Send, Receive}

abbrev pub act_of : Event → steps.Act
act_of (Set g w) = steps.set_register g w
act_of Send = steps.send
act_of (Receive hand) = steps.receive hand.now
