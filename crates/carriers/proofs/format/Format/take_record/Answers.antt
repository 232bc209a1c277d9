use Rattle.std.proofs.Common.{◌≡◌, ◌+◌, length, set, ap, ◌∙◌, arith, length-drop}
use Rattle.std.proofs.lemmas.List.{length-set, take_rest}
use Rattle.carriers.proofs.CopyWrites.{record_taken}
use Rattle.carriers.proofs.Fields.{big_word, words_read}
use Rattle.carriers.proofs.format.Format.take_record.Goals as goal

pub returns : goal.returns
returns c =
    let same = length-set c.args.words.now 0 c.read_u32.result in
    let whole : length (set c.args.words.now 0 c.read_u32.result) ≡ c.args.self.nodes + 1 = same ∙ c.requires.words in
    let long : length c.read_u32_into.new.dst ≡ c.args.self.nodes = c.read_u32_into.auto.dst ∙ ap length (take_rest (set c.args.words.now 0 c.read_u32.result) 1) ∙ length-drop 1 (set c.args.words.now 0 c.read_u32.result) ∙ omega arith in
    record_taken c.args.words.now _ c.args.bytes.now c.args.self.nodes _ c.requires.words (c.read_u32.ensures ∙ big_word c.args.bytes.now 0)
    (words_read c.args.bytes.now _ 8 c.args.self.nodes (omega (arith, c.requires.bytes)) long c.read_u32_into.ensures)
