use Rattle.std.proofs.Common.{◌≡◌, ◌+◌, ◌*◌, Ok, Err, sym, refl, arith, rules}
use Rattle.std.proofs.lemmas.Result.{err_from_is_err_and}
use Rattle.table.specs.Wire.{field}
use Rattle.table.specs.declared.fault.Reason.TheVariants.{Copy}
use Rattle.carriers.proofs.EachRead.{each_none, each_more, each_stop, each_end}
use Rattle.carriers.proofs.copy.checking.check_words.Goals as goal

pub returns-in_err-field : goal.returns-in_err-field
returns-in_err-field c =
    let p = err_from_is_err_and c.from_residual.result c.from_residual.ensures.1 in
    let reads : field Copy c.args.reader.now.bytes.now (c.args.reader.now.at + c.loop-i._i * 4) ≡ Err c.in_err-field.field-0.0 = search rules in
    rw (p.1, p.2) (record {
      value = sym (each_stop (λ i. field Copy c.args.reader.now.bytes.now (c.args.reader.now.at + i * 4)) c.loop-i._i c.args.count _ c.loop-i-test.true c.loop-i.invariant.2 reads);
      reader = search rules;
    })

pub loop-i-init : goal.loop-i-init
loop-i-init c = (refl, omega arith, each_none (λ i. field Copy c.args.reader.now.bytes.now (c.args.reader.now.at + i * 4)))

pub loop-i-preserved : goal.loop-i-preserved
loop-i-preserved c =
    let reads : field Copy c.args.reader.now.bytes.now (c.args.reader.now.at + c.loop-i._i * 4) ≡ Ok c.in_ok-field.field-0 = search rules in
    let moved : c.field.new.self.at ≡ c.loop-i.reader.at + 4 = c.in_ok-field.ensures.at in (
      search rules,
      omega arith,
      each_more (λ i. field Copy c.args.reader.now.bytes.now (c.args.reader.now.at + i * 4)) c.loop-i._i _ c.loop-i.invariant.2 reads,
    )

pub returns : goal.returns
returns c =
    record {
      value = each_end (λ i. field Copy c.args.reader.now.bytes.now (c.args.reader.now.at + i * 4)) c.loop-i._i c.args.count c.loop-i-test.false c.loop-i.auto._i-end c.loop-i.invariant.2;
      reader = search rules;
    }
