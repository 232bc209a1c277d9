-- Where a register's starting word stands. Assumes nothing.
use Rattle.std.proofs.Common.{◌≡◌, ℕ, zero, suc, ◌+◌, ◌-◌, ◌*◌, ◌<◌, cond, ◌&&◌, List, length, get_or, Some, None, sym, ap, ◌∙◌, arith, lt-ltb}
use Rattle.table.specs.Limits.{register_count}
use Rattle.table.specs.Tables.{start_word, starts_start, table_length, table_of, words_at}
use Rattle.table.specs.Wire.{word_at}
use Rattle.table.specs.declared.node.Node.{Node}
use Rattle.table.specs.declared.node.Rule.{Rule}
use Rattle.table.proofs.TableCodec.{length_words_at}

pub get_d_words : (bs : List ℕ) (at count k : ℕ) → k < count → get_or (words_at bs at count) k 0 ≡ word_at bs (at + k * 4)
unfolding words_at
get_d_words bs at zero k lt = absurd (omega arith)
get_d_words bs at (suc count) zero lt = ap (word_at bs) (omega arith)
get_d_words bs at (suc count) (suc k) lt = get_d_words bs (at + 4) count k (omega arith) ∙ ap (word_at bs) (omega arith)

pub start_there : (bs : List ℕ) (n : ℕ) (xs : List Node) (rs : List Rule) (s g : ℕ) → s < n → g < register_count → length bs ≡ table_length (table_of bs n xs rs) → Some (word_at bs (length bs - n * register_count * 4 + (s * register_count + g) * 4)) ≡ start_word (table_of bs n xs rs) s g
start_there bs n xs rs s g below small long =
    let count = length_words_at bs (starts_start (length xs) (length rs)) (register_count * n) in
    let place : length bs - n * register_count * 4 + (s * register_count + g) * 4 ≡ starts_start (length xs) (length rs) + (s * register_count + g) * 4 = omega (arith, count, long) in
    let one = lt-ltb s n below in
    let two = lt-ltb g register_count small in
    ap (λ k. Some (word_at bs k)) place
    ∙ ap Some (sym (get_d_words bs (starts_start (length xs) (length rs)) (register_count * n) (s * register_count + g) (omega arith)))
    ∙ sym ((λ i. cond (one i && two i) (Some (get_or (words_at bs (starts_start (length xs) (length rs)) (register_count * n)) (s * register_count + g) 0)) None))
