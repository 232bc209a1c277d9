use Rattle.std.proofs.Common.{length, Some, sym, ap, ◌∙◌, arith}
use Rattle.table.proofs.StartWords.{start_there}
use Rattle.table.proofs.TableCodec.{length_table}
use Rattle.table.proofs.table.Checked.starting_word.Goals as goal

pub word-requires : goal.word-requires
word-requires c = omega arith

pub returns : goal.returns
returns c =
    let long = sym (ap length c.args.self.now.coded) ∙ length_table _ in
    ap Some c.word.ensures ∙ start_there _ c.args.self.now.switches _ _ c.args.switch c.args.register c.if-switch-self.false c.if-register-ge-REGISTERS.false long
