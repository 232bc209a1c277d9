use Rattle.std.proofs.Common.{ℕ, ◌+◌, ◌-◌, ◌<◌, length, get_or, take, drop, sym, refl, ◌∙◌, subst, arith}
use Rattle.std.proofs.lemmas.List.{get_or-drop, take_rest}
use Rattle.carriers.proofs.CopyWrites.{record_written}
use Rattle.carriers.proofs.Fields.{words_put}
use Rattle.carriers.proofs.format.Format.put_record.Goals as goal

pub returns : goal.returns
returns c =
    let small : (i : ℕ) → get_or c.args.words.now i 0 < 4294967296 = λ i. omega (arith, c.type_inv.words i) in
    let rest = take (length c.args.words.now - 1) (drop 1 c.args.words.now) in
    let rest_small : (i : ℕ) → get_or rest i 0 < 4294967296 = λ i. subst (λ ws. get_or ws i 0 < 4294967296) (sym (take_rest c.args.words.now 1)) (subst (λ w. w < 4294967296) (sym (get_or-drop 1 c.args.words.now i 0)) (small (1 + i))) in
    record_written c.args.bytes.now _ _ c.args.words.now _ _ c.args.self.nodes _ c.requires.words c.requires.bytes refl (take_rest c.args.words.now 1) c.put_word.ensures c.put_word-2.ensures
    (c.write_u32_into.ensures ∙ words_put _ (λ i. rest_small i))
