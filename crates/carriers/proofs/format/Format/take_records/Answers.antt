use Rattle.std.proofs.Common.{◌≡◌, ◌+◌, ◌-◌, ◌*◌, length, take, drop, ap, ◌∙◌, arith}
use Rattle.table.proofs.TableCodec.{length_words_at}
use Rattle.carriers.specs.Copies.{record_in, record_size}
use Rattle.carriers.specs.Memory.{placed}
use Rattle.carriers.proofs.CopyWrites.{records_in_none, records_in_turn}
use Rattle.carriers.proofs.Fields.{record_there}
use Rattle.carriers.proofs.Placing.{putMid_placed}
use Rattle.carriers.proofs.format.Format.take_records.Goals as goal

pub loop-j-init : goal.loop-j-init
loop-j-init c = records_in_none _ _ _

pub loop-j-preserved : goal.loop-j-preserved
loop-j-preserved c =
    let m = c.args.self.nodes in
    let from = c.start_in_bytes-from.result in
    let to = c.start_in_hand-to.result in
    let wide : from + 8 + 4 * m - from ≡ record_size m = omega arith in
    let is : c.take_record.new.words ≡ record_in m c.args.bytes.now from = c.take_record.ensures ∙ ap (λ w. record_in m (take w (drop from c.args.bytes.now)) 0) wide ∙ record_there m c.args.bytes.now from in
    let size : length c.take_record.new.words ≡ m + 1 = ap length is ∙ omega (arith, length_words_at c.args.bytes.now (from + 8) m) in
    records_in_turn c.args.hand.now _ _ c.args.bytes.now c.args.self.switches m c.loop-j.j to from c.requires.hand c.loop-j-test.true c.start_in_hand-to.ensures.value c.start_in_bytes-from.ensures.value c.loop-j.invariant
    (putMid_placed (1 + to) _ c.loop-j.hand c.take_record.new.words (omega arith) ∙ ap (placed c.loop-j.hand (1 + to)) is)
