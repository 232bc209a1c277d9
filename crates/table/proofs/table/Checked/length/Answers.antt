use Rattle.std.proofs.Common.{length, sym, ap, ◌∙◌}
use Rattle.table.proofs.TableCodec.{length_table}
use Rattle.table.proofs.table.Checked.length.Goals as goal

pub returns : goal.returns
returns c = sym (ap length c.args.self.now.coded) ∙ length_table _
