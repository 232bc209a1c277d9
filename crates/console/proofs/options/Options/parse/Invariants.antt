use Rattle.std.proofs.Common.{◌≡◌}
use Rattle.std.specs.Vec.Iter.{into_iter_items}
use Rattle.console.specs.Words.{parsed, nothing_asked}
use Rattle.console.proofs.options.Options.parse.Given as goal

abbrev pub invariant-loop-word : goal.invariant-loop-word
invariant-loop-word g l =
    (goal.iterator-loop-word g).can_next l.word-iterator ×
    (goal.iterator-loop-word g).is_finite l.word-iterator ×
    (parsed g.F.Flags.with l.options (into_iter_items l.word-iterator) ≡ parsed g.F.Flags.with (nothing_asked g.F.Flags.none) (into_iter_items l.initial.word-iterator))
