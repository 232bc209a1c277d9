use Rattle.std.proofs.Common.{◌≡◌, ◌+◌, ◌-◌, ◌*◌, length, take, drop, ap, ◌∙◌, arith}
use Rattle.std.specs.List.{flat_map}
use Rattle.step.specs.Records.{record_of}
use Rattle.table.specs.Wire.{word_bytes}
use Rattle.carriers.specs.Copies.{record_fields, record_size, records_fields}
use Rattle.carriers.specs.Memory.{placed}
use Rattle.carriers.proofs.CopyWrites.{length_record_fields, length_record_of, records_none, records_turn}
use Rattle.carriers.proofs.Placing.{putMid_placed}
use Rattle.carriers.proofs.format.Format.put_records.Goals as goal

pub loop-j-init : goal.loop-j-init
loop-j-init c = records_none _ _ _

pub loop-j-preserved : goal.loop-j-preserved
loop-j-preserved c =
    let m = c.args.self.nodes in
    let from = c.start_in_hand-from.result in
    let to = c.start_in_bytes-to.result in
    let wide : from + m + 1 - from ≡ m + 1 = omega arith in
    let part : take (from + m + 1 - from) (drop from c.args.records.now) ≡ record_of m c.args.records.now c.loop-j.j = (λ i. take (wide i) (drop (c.start_in_hand-from.ensures.value i) c.args.records.now)) in
    let is : c.put_record.new.bytes ≡ flat_map word_bytes (record_fields m (record_of m c.args.records.now c.loop-j.j)) = c.put_record.ensures ∙ ap (λ r. flat_map word_bytes (record_fields m r)) part in
    let size : length c.put_record.new.bytes ≡ record_size m = ap length is ∙ length_record_fields m (record_of m c.args.records.now c.loop-j.j) (length_record_of m c.args.self.switches c.loop-j.j c.args.records.now c.requires.records c.loop-j-test.true) in
    records_turn c.args.bytes.now _ _ c.args.records.now (record_of m c.args.records.now c.loop-j.j) c.args.self.switches m c.loop-j.j to c.requires.records c.requires.bytes c.loop-j-test.true c.start_in_bytes-to.ensures.value (λ i. record_of m c.args.records.now c.loop-j.j) c.loop-j.invariant
    (putMid_placed to (to + 8 + 4 * m - to) c.loop-j.bytes c.put_record.new.bytes (omega arith) ∙ ap (placed c.loop-j.bytes to) is)

pub returns : goal.returns
returns c =
    let end : c.loop-j.j ≡ c.args.self.switches = omega arith in
    c.loop-j.invariant ∙ ap (λ k. placed c.args.bytes.now 12 (flat_map word_bytes (records_fields c.args.self.nodes c.args.records.now k))) end
