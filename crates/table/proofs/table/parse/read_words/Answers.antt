use Rattle.std.proofs.Common.{◌≡◌, ◌+◌, ◌-◌, [], Ok, Err, sym, refl, ap, ◌∙◌, arith, rules}
use Rattle.std.proofs.lemmas.Result.{err_from_is_err_and}
use Rattle.table.specs.Tables.{words_at, words_from}
use Rattle.table.specs.Wire.{field}
use Rattle.table.specs.declared.fault.Reason.TheVariants.{TableLength}
use Rattle.table.proofs.ArrayLoops.{items_done}
use Rattle.table.proofs.WordRuns.{words_turn, words_stop}
use Rattle.table.proofs.table.parse.read_words.Goals as goal

pub returns-in_err-field : goal.returns-in_err-field
returns-in_err-field c =
    let p = err_from_is_err_and c.from_residual.result c.from_residual.ensures.1 in
    let reads : field TableLength c.args.reader.now.bytes.now c.loop-i.reader.at ≡ Err c.in_err-field.field-0.0 = search rules in
    rw (p.1, p.2) (record {
      value = words_stop _ c.args.reader.now.at c.loop-i.reader.at c.loop-i._i c.args.count _ c.loop-i-test.true c.loop-i.invariant.1 c.loop-i.invariant.2 _ reads;
      reader = search rules;
    })

pub loop-i-init : goal.loop-i-init
unfolding words_at
loop-i-init c =
    let whole : c.args.count - 0 ≡ c.args.count = omega arith in
    (refl, omega arith, ap (λ k. words_from c.args.reader.now.bytes.now c.args.reader.now.at k []) whole)

pub loop-i-preserved : goal.loop-i-preserved
loop-i-preserved c =
    let reads : field TableLength c.args.reader.now.bytes.now c.loop-i.reader.at ≡ Ok c.in_ok-field.field-0 = search rules in
    let moved : c.field.new.self.at ≡ c.loop-i.reader.at + 4 = c.in_ok-field.ensures.at in (
      search rules,
      omega arith,
      rw moved (words_turn _ c.args.reader.now.at c.loop-i.reader.at c.loop-i._i c.args.count _ c.loop-i-test.true c.loop-i.invariant.1 c.loop-i.invariant.2 _ reads),
    )

pub returns : goal.returns
returns c =
    let all : c.args.count ≡ c.loop-i._i = omega arith in
    record {
      value = ap (λ k. Ok (words_at c.args.reader.now.bytes.now c.args.reader.now.at k)) all ∙ sym (items_done _ 4 c.loop-i.reader.at c.loop-i._i c.args.count _ c.loop-i-test.false) ∙ c.loop-i.invariant.2;
      reader = search rules;
    }
