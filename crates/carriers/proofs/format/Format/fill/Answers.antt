use Rattle.std.proofs.Common.{refl}
use Rattle.carriers.proofs.CopyWrites.{hand_filled}
use Rattle.carriers.proofs.Fields.{word_read}
use Rattle.carriers.proofs.format.Format.fill.Goals as goal

pub returns : goal.returns
returns c = hand_filled c.args.hand.now _ _ c.args.bytes.now c.args.self.switches c.args.self.nodes _ c.requires.hand (word_read _ c.args.bytes.now 4 c.read_u32.ensures) refl c.take_records.ensures
