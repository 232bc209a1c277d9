use Rattle.std.proofs.Common.{◌≡◌, ◌+◌, ◌*◌, true, is_ok, Ok, Err, sym, refl, ap, ◌∙◌, add-mul, arith, rules}
use Rattle.std.proofs.lemmas.Result.{err_from_is_err_and}
use Rattle.carriers.specs.Copies.{record_offset, record_read, record_size}
use Rattle.carriers.proofs.EachRead.{each_none, each_more, each_stop, each_end}
use Rattle.carriers.proofs.format.Format.check_records.Goals as goal

pub returns-in_err-check_record : goal.returns-in_err-check_record
returns-in_err-check_record c =
    let p = err_from_is_err_and c.from_residual.result c.from_residual.ensures.1 in
    let reads : record_read c.args.self.nodes c.args.reader.now.bytes.now (record_offset c.args.self.nodes c.loop-j._j) ≡ Err _ =
    (λ i. record_read c.args.self.nodes (sym c.loop-j.invariant.0 i) (sym c.loop-j.invariant.1 i)) ∙ sym c.check_record.ensures.value ∙ c.in_err-check_record.was in
    rw (p.1, p.2) (record {
      value = sym (each_stop (λ j. record_read c.args.self.nodes c.args.reader.now.bytes.now (record_offset c.args.self.nodes j)) c.loop-j._j c.args.self.switches _ c.loop-j-test.true c.loop-j.invariant.2 reads);
      reader = search rules;
    })

pub loop-j-init : goal.loop-j-init
loop-j-init c = (refl, c.requires ∙ omega arith, each_none (λ j. record_read c.args.self.nodes c.args.reader.now.bytes.now (record_offset c.args.self.nodes j)))

pub loop-j-preserved : goal.loop-j-preserved
loop-j-preserved c =
    let reads : record_read c.args.self.nodes c.args.reader.now.bytes.now (record_offset c.args.self.nodes c.loop-j._j) ≡ Ok tt =
    (λ i. record_read c.args.self.nodes (sym c.loop-j.invariant.0 i) (sym c.loop-j.invariant.1 i)) ∙ sym c.check_record.ensures.value ∙ c.in_ok-check_record.was in
    let well : is_ok c.check_record.result ≡ true = ap is_ok c.in_ok-check_record.was in
    let moved : c.check_record.new.reader.at ≡ c.loop-j.reader.at + record_size c.args.self.nodes = c.check_record.ensures.reader.at well in (
      search rules,
      omega (arith, add-mul c.loop-j._j 1 (record_size c.args.self.nodes)),
      each_more (λ j. record_read c.args.self.nodes c.args.reader.now.bytes.now (record_offset c.args.self.nodes j)) c.loop-j._j _ c.loop-j.invariant.2 reads,
    )

pub returns : goal.returns
returns c =
    let end : c.loop-j._j ≡ c.args.self.switches = omega arith in
    let rows : c.loop-j._j * record_size c.args.self.nodes ≡ c.args.self.switches * record_size c.args.self.nodes = ap (λ k. k * record_size c.args.self.nodes) end in
    record {
      value = each_end (λ j. record_read c.args.self.nodes c.args.reader.now.bytes.now (record_offset c.args.self.nodes j)) c.loop-j._j c.args.self.switches c.loop-j-test.false c.loop-j.auto._j-end c.loop-j.invariant.2;
      reader = record { bytes = c.loop-j.invariant.0; at = λ w. omega arith };
    }
