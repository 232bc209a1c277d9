use Rattle.std.proofs.Common.{◌≡◌, ◌++◌, IfOk, string_bytes, subst}
use Rattle.inspect.specs.Reports.{newline, summary_text}
use Rattle.inspect.specs.declared.report.Summary.{Summary}
use Rattle.inspect.proofs.report.Accepted.text.Goals as goal

pub returns-else-print : goal.returns-else-print
returns-else-print c _ =
    let P : Summary → Type 0 = λ x. IfOk c.format-else-print.result (λ s. string_bytes s ≡ summary_text x ++ newline) in
    subst P c.summary-summary.ensures c.format-else-print.ensures.ok
