-- Fields that byteorder reads and writes. Assumes nothing.
use Rattle.std.proofs.Common.{◌≡◌, ℕ, zero, suc, ◌+◌, ◌-◌, ◌*◌, ◌/◌, ◌%◌, ◌<◌, ◌≤◌, List, [], ◌∷◌, ◌++◌, length, get_or, take, drop, sym, refl, ap, ◌∙◌, append-nil, arith, length-drop}
use borrow.Rule.Slice.PartMut.{put_mid}
use Rattle.std.proofs.lemmas.List.{drop-drop, drop_all, ext_get_or, get_or-drop, get_or-take, take_all}
use Rattle.std.specs.List.{flat_map}
use Rattle.byteorder.specs.Endian.{big_bytes, big_number}
use Rattle.table.proofs.StartWords.{get_d_words}
use Rattle.table.proofs.TableCodec.{length_words_at}
use Rattle.table.specs.Tables.{words_at}
use Rattle.table.specs.Wire.{word_at, word_bytes}
use Rattle.carriers.specs.Copies.{record_in, record_size}
use Rattle.carriers.specs.Memory.{placed}

pub big_word : (bs : List ℕ) (at : ℕ) → big_number 4 (drop at bs) ≡ word_at bs at
unfolding word_at
big_word bs at =
    let a = get_or-drop at bs 0 0 in
    let none : at + 0 ≡ at = omega arith in
    let first : get_or (drop at bs) 0 0 ≡ get_or bs at 0 = a ∙ ap (λ i. get_or bs i 0) none in
    omega (arith, first, get_or-drop at bs 1 0, get_or-drop at bs 2 0, get_or-drop at bs 3 0)

pub big_word_bytes : (w : ℕ) → w < 4294967296 → big_bytes 4 w ≡ word_bytes w
big_word_bytes w lt = let top : w / 16777216 % 256 ≡ w / 16777216 = omega arith in ap (λ b. b ∷ (w / 65536 % 256) ∷ (w / 256 % 256) ∷ (w % 256) ∷ []) top

pub word_put : (d b : List ℕ) (at w : ℕ) → w < 4294967296 → at + 4 ≤ length d → b ≡ big_bytes 4 w ++ drop 4 (take (length d - at) (drop at d)) → put_mid at (length d - at) d b ≡ placed d at (word_bytes w)
unfolding placed
word_put d b at w fits room e =
    let rest : drop 4 (take (length d - at) (drop at d)) ≡ drop (at + 4) d =
    ap (drop 4) (take_all (length d - at) (drop at d) (omega (arith, length-drop at d))) ∙ drop-drop 4 at d in
    let none : drop (length d - at) (drop at d) ≡ [] = drop_all (length d - at) (drop at d) (omega (arith, length-drop at d)) in
    (λ i. take at d ++ (e i ++ none i))
    ∙ ap (λ r. take at d ++ r) (append-nil (big_bytes 4 w ++ drop 4 (take (length d - at) (drop at d))))
    ∙ (λ i. take at d ++ (big_word_bytes w fits i ++ rest i))

-- what is read from the bytes that begin at `at`
pub word_read : (r : ℕ) (bs : List ℕ) (at : ℕ) → r ≡ big_number 4 (take (length bs - at) (drop at bs)) → r ≡ word_at bs at
word_read r bs at e = e ∙ ap (big_number 4) (take_all (length bs - at) (drop at bs) (omega (arith, length-drop at bs))) ∙ big_word bs at

-- many words at once

pub words_read : (bs dst : List ℕ) (at m : ℕ) → at ≤ length bs → length dst ≡ m → ((k : ℕ) → k < length dst → get_or dst k 0 ≡ big_number 4 (drop (4 * k) (take (length bs - at) (drop at bs)))) → dst ≡ words_at bs at m
words_read bs dst at m room long each =
    ext_get_or 0 dst (words_at bs at m) (long ∙ sym (length_words_at bs at m)) (λ k lt. (
    each k lt
    ∙ ap (λ xs. big_number 4 (drop (4 * k) xs)) (take_all (length bs - at) (drop at bs) (omega (arith, length-drop at bs)))
    ∙ ap (big_number 4) (drop-drop (4 * k) at bs)
    ∙ big_word bs (at + 4 * k)
    ∙ ap (word_at bs) (omega arith)
    ∙ sym (get_d_words bs at m k (omega arith))))

pub words_put : (ws : List ℕ) → ((i : ℕ) → get_or ws i 0 < 4294967296) → flat_map (big_bytes 4) ws ≡ flat_map word_bytes ws
words_put [] small = refl
words_put (w ∷ ws) small = (λ i. big_word_bytes w (small 0) i ++ words_put ws (λ k. small (suc k)) i)

-- a record that was cut out of a copy's bytes

word_there : (n : ℕ) (bs : List ℕ) (at j : ℕ) → j + 4 ≤ n → word_at (take n (drop at bs)) j ≡ word_at bs (at + j)
unfolding word_at
word_there n bs at j le =
    let byte : (i : ℕ) → i < n → get_or (take n (drop at bs)) i 0 ≡ get_or bs (at + i) 0 = λ i lt. get_or-take n (drop at bs) i 0 lt ∙ get_or-drop at bs i 0 in
    let b = byte (j + 1) (omega arith) ∙ ap (λ i. get_or bs i 0) (omega arith) in
    let c = byte (j + 2) (omega arith) ∙ ap (λ i. get_or bs i 0) (omega arith) in
    let d = byte (j + 3) (omega arith) ∙ ap (λ i. get_or bs i 0) (omega arith) in
    (λ i. byte j (omega arith) i * 16777216 + b i * 65536 + c i * 256 + d i)

words_there : (n : ℕ) (bs : List ℕ) (at j m : ℕ) → j + m * 4 ≤ n → words_at (take n (drop at bs)) j m ≡ words_at bs (at + j) m
unfolding words_at
words_there n bs at j zero le = refl
words_there n bs at j (suc m) le =
    let next : words_at bs (at + (j + 4)) m ≡ words_at bs (at + j + 4) m = ap (λ i. words_at bs i m) (omega arith) in
    (λ i. word_there n bs at j (omega arith) i ∷ (words_there n bs at (j + 4) m (omega arith) ∙ next) i)

pub record_there : (m : ℕ) (bs : List ℕ) (at : ℕ) → record_in m (take (record_size m) (drop at bs)) 0 ≡ record_in m bs at
record_there m bs at =
    let none : word_at bs (at + 0) ≡ word_at bs at = ap (word_at bs) (omega arith) in
    (λ i. (word_there (record_size m) bs at 0 (omega arith) ∙ none) i ∷ words_there (record_size m) bs at 8 m (omega arith) i)

pub big_first : (bs : List ℕ) → big_number 4 bs ≡ word_at bs 0
big_first bs = big_word bs 0
