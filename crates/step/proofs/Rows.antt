-- Records that follow one another. Assumes nothing.
use Rattle.std.proofs.Common.{◌≡◌, ℕ, suc, ◌+◌, ◌*◌, ◌<◌, ◌≤◌, List, get_or, take, drop, sym, ap, ◌∙◌, add-zero, suc-mul, arith}
use Rattle.std.proofs.lemmas.Nat.{mul-le}
use Rattle.std.proofs.lemmas.List.{drop-drop, drop-take, get_or-take, get_or-drop}
use Rattle.step.specs.Records.{record_of, record_start, count_of}
use Rattle.step.specs.StepLaws.{record_words}

-- record j of count lies within them
pub row_inside : (j width count : ℕ) → j < count → j * width + width ≤ count * width
row_inside j width count below = omega (arith, suc-mul j width, mul-le (suc j) width count width below (omega arith))

-- a record's count stands where it begins
pub count_there : (m : ℕ) (records : List ℕ) (j : ℕ) → count_of (record_of m records j) ≡ get_or records (record_start m j) 0
count_there m records j =
    get_or-take (m + 1) (drop (record_start m j) records) 0 0 (omega arith)
    ∙ get_or-drop (record_start m j) records 0 0
    ∙ ap (λ k. get_or records k 0) (add-zero (record_start m j))

-- a record's words stand after its count
pub words_part : (m : ℕ) (block : List ℕ) (j at len : ℕ) → at ≡ record_start m j → len ≡ m → take len (drop (at + 1) block) ≡ record_words m block j
words_part m block j at len place long =
    let wide : 1 + m ≡ m + 1 = omega arith in
    (λ i. take (long i) (drop (place i + 1) block))
    ∙ ap (take m) (sym (drop-drop 1 (record_start m j) block))
    ∙ sym (drop-take 1 m (drop (record_start m j) block))
    ∙ ap (λ z. drop 1 (take z (drop (record_start m j) block))) wide
