use Rattle.std.proofs.Common.{nat_le, refl, ap, ◌∙◌}
use Rattle.std.specs.Fmt.{HasWritten}
use Rattle.inspect.specs.Forms.{body_text, form_strength, formula_text, rank_of}
use Rattle.inspect.proofs.Formulas.{operand_text, prefixed, infixed, suffixed, placed, assembled}
use Rattle.std.proofs.Output.{has_written_append, has_written_of_eq}
use Rattle.inspect.proofs.formula.+show.Goals as goal

pub returns : goal.returns
returns g t c plain ok =
    let took = g.W.Write.write_str_gives in
    let k = c.args.formula.kind in
    let nodes = c.args.formula.nodes.now in
    let d = c.args.formula.depth in
    let x = c.form-form.result in
    let part = operand_text k nodes d in
    let first = c.write_bracket.new.f in
    let last = c.match-form.f in
    let strong = c.strength-strength.ensures in
    let tested = c.is_bracketed-bracketed.ensures ∙ ap (λ s. nat_le (rank_of s) (rank_of c.args.around)) strong in
    let opened = c.in_ok-write_bracket.ensures plain refl in
    let body : HasWritten took first (body_text k x part) last =
    elim c.match-form.branch [
      | goal.in-Truth+in_ok-write-in-Truth w ↦
          placed took k part x _ first last _ w.in-Truth.is w.f-is (w.in_ok-write-in-Truth.ensures.writes opened.plain refl)
      | goal.in-Register+in_ok-write-in-Register w ↦
          placed took k part x _ first last _ w.in-Register.is w.f-is (w.in_ok-write-in-Register.ensures.writes opened.plain refl)
      | goal.in-Constant+in_ok-write-in-Constant w ↦
          placed took k part x _ first last _ w.in-Constant.is w.f-is (w.in_ok-write-in-Constant.ensures.writes opened.plain refl)
      | goal.in-Name+in_ok-write-in-Name w ↦
          placed took k part x _ first last _ w.in-Name.is w.f-is (w.in_ok-write-in-Name.ensures.writes opened.plain refl)
      | goal.in-Prefix+in_ok-write-in-Prefix+in_ok-show-in-Prefix w ↦
          let o = w.operand.ensures in
          let at = strong ∙ ap form_strength w.in-Prefix.is in
          let one = w.in_ok-write-in-Prefix.ensures.writes opened.plain refl in
          let two = w.in_ok-show-in-Prefix.ensures one.plain refl in
          placed took k part x _ first last _ w.in-Prefix.is w.f-is
          (has_written_of_eq took _ _ _ _ (prefixed _ _ _ (λ i. formula_text (o.kind i) (o.nodes i) (o.depth i) (o.node i) (at i)))
          (has_written_append took _ _ _ _ _ one two))
      | goal.in-Infix+in_ok-show-in-Infix+in_ok-write-in-Infix+in_ok-show-in-Infix-2 w ↦
          let o = w.operand-in-Infix.ensures in
          let q = w.operand-in-Infix-2.ensures in
          let at = strong ∙ ap form_strength w.in-Infix.is in
          let one = w.in_ok-show-in-Infix.ensures opened.plain refl in
          let two = w.in_ok-write-in-Infix.ensures.writes one.plain refl in
          let three = w.in_ok-show-in-Infix-2.ensures two.plain refl in
          placed took k part x _ first last _ w.in-Infix.is w.f-is
          (has_written_of_eq took _ _ _ _
          (infixed _ _ _ _ _ _ (λ i. formula_text (o.kind i) (o.nodes i) (o.depth i) (o.node i) (at i)) w.word-word.ensures
          (λ i. formula_text (q.kind i) (q.nodes i) (q.depth i) (q.node i) (at i)))
          (has_written_append took _ _ _ _ _ one (has_written_append took _ _ _ _ _ two three)))
      | goal.in-At+in_ok-show-in-At+in_ok-write-in-At w ↦
          let o = w.operand-in-At.ensures in
          let at = strong ∙ ap form_strength w.in-At.is in
          let one = w.in_ok-show-in-At.ensures opened.plain refl in
          let two = w.in_ok-write-in-At.ensures.writes one.plain refl in
          placed took k part x _ first last _ w.in-At.is w.f-is
          (has_written_of_eq took _ _ _ _ (suffixed _ _ _ (λ i. formula_text (o.kind i) (o.nodes i) (o.depth i) (o.node i) (at i)))
          (has_written_append took _ _ _ _ _ one two))
    ] in
    assembled took k nodes d c.args.formula.node c.args.around x _ c.args.f.now first last c.write_bracket-2.new.f
    c.form-form.ensures.value c.form-form.ensures.deep tested opened body (c.write_bracket-2.ensures body.plain ok)
