use Rattle.std.proofs.Common.{◌≡◌, ◌-◌, ◌++◌, length, ap, ◌∙◌, arith}
use borrow.Rule.Slice.PartMut.{put_mid}
use Rattle.table.specs.Wire.{word_bytes}
use Rattle.carriers.specs.Copies.{copy_bytes}
use Rattle.carriers.specs.Memory.{placed}
use Rattle.carriers.proofs.CopyWrites.{length_copy_bytes}
use Rattle.carriers.proofs.FramePlaces.{frame_flagged, frame_holds, frame_written}
use Rattle.carriers.proofs.Placing.{length_placed, putMid_placed}
use Rattle.carriers.proofs.frames.U8Places.store.Goals as goal

pub returns : goal.returns
returns c =
    let f = c.args.format in
    let hand = c.args.hand.now in
    let d = c.args.place.now in
    let wide = length_copy_bytes f.code f.switches f.nodes hand c.requires.hand in
    let same : length c.put_word.new.bytes ≡ length d = ap length c.put_word.ensures ∙ length_placed d 0 (word_bytes c.args.new_flag) (omega (arith, c.requires.whole)) in
    let written : put_mid 4 (length c.put_word.new.bytes - 4) c.put_word.new.bytes c.write.new.bytes ≡ word_bytes c.args.new_flag ++ copy_bytes f.code f.switches f.nodes hand =
    frame_written d _ hand f.code f.switches f.nodes c.args.new_flag c.requires.whole c.requires.hand
    (putMid_placed 4 _ c.put_word.new.bytes c.write.new.bytes (ap length c.write.ensures ∙ omega (arith, c.requires.whole)) ∙ (λ i. placed (c.put_word.ensures i) 4 (c.write.ensures i))) in
    record {
      flag = frame_flagged _ _ _ written;
      copy = frame_holds _ hand f.code f.switches f.nodes c.args.new_flag c.requires.hand written;
    }
