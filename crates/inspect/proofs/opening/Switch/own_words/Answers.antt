use Rattle.std.proofs.Common.{◌≡◌, ◌+◌, ◌-◌, ◌*◌, length, refl, ap, ◌∙◌, arith}
use Rattle.step.specs.StepLaws.{record_words}
use Rattle.step.proofs.Rows.{words_part}
use Rattle.inspect.proofs.opening.Switch.own_words.Goals as goal

pub returns : goal.returns
returns c =
    let m = length c.nodes-nodes.result.now in
    let s = c.args.self.number in
    let at = s * (m + 1) in
    let len : at + 1 + m - (at + 1) ≡ m = omega arith in
    words_part m c.args.block.now s at (at + 1 + m - (at + 1)) refl len
    ∙ ap (λ z. record_words z c.args.block.now s) (ap length c.nodes-nodes.ensures.value)
