use Rattle.std.proofs.Common.{refl}
use Rattle.std.proofs.lemmas.List.{take_rest}
use Rattle.carriers.proofs.CopyWrites.{copy_written}
use Rattle.carriers.proofs.format.Format.write.Goals as goal

pub returns : goal.returns
returns c = copy_written c.args.bytes.now _ _ _ _ c.args.hand.now _ c.args.self.code c.args.self.switches c.args.self.nodes _ c.requires.hand c.requires.bytes refl (take_rest c.args.hand.now 1) c.put_word.ensures c.put_word-2.ensures c.put_word-3.ensures c.put_records.ensures
