-- Fields written one after another, and words taken one after another. Assumes nothing.
use Rattle.std.proofs.Common.{◌≡◌, ℕ, zero, suc, ◌+◌, ◌-◌, ◌*◌, ◌<◌, ◌≤◌, List, [], ◌∷◌, ◌++◌, length, get_or, drop, set, sym, refl, ap, ◌∙◌, suc-mul, arith, length-append, length-drop}
use borrow.Rule.Slice.PartMut.{put_mid}
use Rattle.std.proofs.lemmas.List.{length-set, length-take-le}
use Rattle.std.specs.List.{flat_map}
use Rattle.step.specs.Records.{hand_length, hand_records, record_length, record_of, record_start, records_length}
use Rattle.table.proofs.Arrays.{length_joined}
use Rattle.table.proofs.TableCodec.{length_words_at}
use Rattle.table.specs.Tables.{words_at}
use Rattle.table.specs.Wire.{word_at, word_bytes}
use Rattle.carriers.proofs.Placing.{length_placed, placed_all, placed_more, placed_none, putMid_placed, set_placed}
use Rattle.carriers.proofs.Rows.{row_room}
use Rattle.carriers.specs.Copies.{copy_bytes, copy_length, hand_in, record_fields, record_in, record_offset, record_size, records_fields, records_in}
use Rattle.carriers.specs.Memory.{placed}

pub joined_append : (xs ys : List ℕ) → flat_map word_bytes (xs ++ ys) ≡ flat_map word_bytes xs ++ flat_map word_bytes ys
joined_append [] ys = refl
joined_append (x ∷ xs) ys = ap (λ r. word_bytes x ++ r) (joined_append xs ys)

pub length_fields : (ws : List ℕ) → length (flat_map word_bytes ws) ≡ length ws * 4
length_fields ws = length_joined word_bytes 4 (λ w. refl) ws

-- Writing

-- a record's fields
pub record_written : (d b₁ b₂ r rest dst : List ℕ) (m x : ℕ) → length r ≡ m + 1 → length d ≡ record_size m → x ≡ get_or r 0 0 → rest ≡ drop 1 r → b₁ ≡ placed d 0 (word_bytes x) → b₂ ≡ placed b₁ 4 (word_bytes m) → dst ≡ flat_map word_bytes rest → put_mid 8 (length b₂ - 8) b₂ dst ≡ flat_map word_bytes (record_fields m r)
record_written d b₁ b₂ r rest dst m x long size first others e₁ e₂ e₃ =
    let tail : length dst ≡ m * 4 = ap length e₃ ∙ length_fields rest ∙ ap (λ ws. length ws * 4) others ∙ ap (λ k. k * 4) (length-drop 1 r ∙ omega arith) in
    let two : b₂ ≡ placed d 0 (word_bytes x ++ word_bytes m) = e₂ ∙ ap (λ b. placed b 4 (word_bytes m)) e₁ ∙ placed_more d 0 4 (word_bytes x) (word_bytes m) refl (omega arith) in
    let same : length b₂ ≡ length d = ap length two ∙ length_placed d 0 (word_bytes x ++ word_bytes m) (omega arith) in
    putMid_placed 8 (length b₂ - 8) b₂ dst (omega arith)
    ∙ ap (λ b. placed b 8 dst) two
    ∙ placed_more d 0 8 (word_bytes x ++ word_bytes m) dst refl (omega arith)
    ∙ placed_all d ((word_bytes x ++ word_bytes m) ++ dst) (omega arith)
    ∙ (λ i. word_bytes (first i) ++ (word_bytes m ++ (e₃ ∙ ap (flat_map word_bytes) others) i))

pub length_record_of : (m n j : ℕ) (rs : List ℕ) → length rs ≡ records_length n m → j < n → length (record_of m rs j) ≡ record_length m
length_record_of m n j rs long lt =
    length-take-le (m + 1) (drop (j * (m + 1)) rs) (let room = row_room j n (m + 1) lt in omega (arith, length-drop (j * (m + 1)) rs))

pub length_record_fields : (m : ℕ) (r : List ℕ) → length r ≡ record_length m → length (flat_map word_bytes (record_fields m r)) ≡ record_size m
length_record_fields m r long = length_fields (record_fields m r) ∙ (let tail : length (drop 1 r) ≡ m = length-drop 1 r ∙ omega arith in omega arith)

pub length_records_fields : (m n : ℕ) (rs : List ℕ) → length rs ≡ records_length n m → (j : ℕ) → j ≤ n → length (flat_map word_bytes (records_fields m rs j)) ≡ j * record_size m
unfolding records_fields
length_records_fields m n rs long zero le = omega arith
length_records_fields m n rs long (suc j) le =
    ap length (joined_append (records_fields m rs j) (record_fields m (record_of m rs j)))
    ∙ length-append (flat_map word_bytes (records_fields m rs j)) (flat_map word_bytes (record_fields m (record_of m rs j)))
    ∙ omega (arith, length_records_fields m n rs long j (omega arith), length_record_fields m (record_of m rs j) (length_record_of m n j rs long (omega arith)), suc-mul j (record_size m))

pub records_none : (d rs : List ℕ) (m : ℕ) → d ≡ placed d 12 (flat_map word_bytes (records_fields m rs 0))
unfolding records_fields
records_none d rs m = sym (placed_none d 12)

pub records_turn : (d b b' rs part : List ℕ) (n m j at : ℕ) → length rs ≡ records_length n m → length d ≡ copy_length n m → j < n → at ≡ record_offset m j → part ≡ record_of m rs j → b ≡ placed d 12 (flat_map word_bytes (records_fields m rs j)) → b' ≡ placed b at (flat_map word_bytes (record_fields m part)) → b' ≡ placed d 12 (flat_map word_bytes (records_fields m rs (j + 1)))
unfolding records_fields
records_turn d b b' rs part n m j at long size lt place cut before after =
    let sofar = length_records_fields m n rs long j (omega arith) in
    let this = length_record_fields m (record_of m rs j) (length_record_of m n j rs long lt) in
    let room = row_room j n (record_size m) lt in
    let next : j + 1 ≡ suc j = omega arith in
    after
    ∙ (λ i. placed (before i) (place i) (flat_map word_bytes (record_fields m (cut i))))
    ∙ placed_more d 12 (record_offset m j) (flat_map word_bytes (records_fields m rs j)) (flat_map word_bytes (record_fields m (record_of m rs j))) (omega arith) (omega arith)
    ∙ ap (placed d 12) (sym (joined_append (records_fields m rs j) (record_fields m (record_of m rs j))))
    ∙ ap (λ k. placed d 12 (flat_map word_bytes (records_fields m rs k))) (sym next)

pub length_copy_bytes : (code n m : ℕ) (hand : List ℕ) → length hand ≡ hand_length n m → length (copy_bytes code n m hand) ≡ copy_length n m
unfolding copy_bytes
length_copy_bytes code n m hand long =
    let rs : length (hand_records hand) ≡ records_length n m = length-drop 1 hand ∙ omega arith in
    let fields = length_records_fields m n (hand_records hand) rs n (omega arith) in
    omega (arith, length-append (word_bytes code) (word_bytes (get_or hand 0 0) ++ (word_bytes n ++ flat_map word_bytes (records_fields m (hand_records hand) n))))

pub copy_written : (d b₁ b₂ b₃ b₄ hand records : List ℕ) (code n m s : ℕ) → length hand ≡ hand_length n m → length d ≡ copy_length n m → s ≡ get_or hand 0 0 → records ≡ hand_records hand → b₁ ≡ placed d 0 (word_bytes code) → b₂ ≡ placed b₁ 4 (word_bytes s) → b₃ ≡ placed b₂ 8 (word_bytes n) → b₄ ≡ placed b₃ 12 (flat_map word_bytes (records_fields m records n)) → b₄ ≡ copy_bytes code n m hand
unfolding copy_bytes
copy_written d b₁ b₂ b₃ b₄ hand records code n m s long size first rest e₁ e₂ e₃ e₄ =
    let rs : length (hand_records hand) ≡ records_length n m = length-drop 1 hand ∙ omega arith in
    let fields = length_records_fields m n (hand_records hand) rs n (omega arith) in
    let two : b₂ ≡ placed d 0 (word_bytes code ++ word_bytes s) =
    e₂ ∙ ap (λ b. placed b 4 (word_bytes s)) e₁ ∙ placed_more d 0 4 (word_bytes code) (word_bytes s) refl (omega arith) in
    let three : b₃ ≡ placed d 0 ((word_bytes code ++ word_bytes s) ++ word_bytes n) =
    e₃ ∙ ap (λ b. placed b 8 (word_bytes n)) two ∙ placed_more d 0 8 (word_bytes code ++ word_bytes s) (word_bytes n) refl (omega arith) in
    e₄
    ∙ (λ i. placed (three i) 12 (flat_map word_bytes (records_fields m (rest i) n)))
    ∙ placed_more d 0 12 ((word_bytes code ++ word_bytes s) ++ word_bytes n) (flat_map word_bytes (records_fields m (hand_records hand) n)) refl (omega arith)
    ∙ placed_all d (((word_bytes code ++ word_bytes s) ++ word_bytes n) ++ flat_map word_bytes (records_fields m (hand_records hand) n)) (omega arith)
    ∙ ap (λ y. ((word_bytes code ++ word_bytes y) ++ word_bytes n) ++ flat_map word_bytes (records_fields m (hand_records hand) n)) first

-- Filling

pub record_taken : (d dst bs : List ℕ) (m x : ℕ) → length d ≡ m + 1 → x ≡ word_at bs 0 → dst ≡ words_at bs 8 m → put_mid 1 (length (set d 0 x) - 1) (set d 0 x) dst ≡ record_in m bs 0
record_taken d dst bs m x long e is =
    let tail : length dst ≡ m = ap length is ∙ length_words_at bs 8 m in
    putMid_placed 1 (length (set d 0 x) - 1) (set d 0 x) dst (omega (arith, length-set d 0 x))
    ∙ ap (λ b. placed b 1 dst) (set_placed d 0 x (omega arith))
    ∙ placed_more d 0 1 (x ∷ []) dst refl (omega arith)
    ∙ placed_all d (x ∷ dst) (omega arith)
    ∙ (λ i. e i ∷ is i)

pub length_records_in : (m : ℕ) (bs : List ℕ) (j : ℕ) → length (records_in m bs j) ≡ records_length j m
unfolding records_in
length_records_in m bs zero = omega arith
length_records_in m bs (suc j) =
    length-append (records_in m bs j) (record_in m bs (record_offset m j))
    ∙ omega (arith, length_records_in m bs j, length_words_at bs (record_offset m j + 8) m, suc-mul j (record_length m))

pub length_hand_in : (n m : ℕ) (bs : List ℕ) → length (hand_in n m bs) ≡ hand_length n m
unfolding hand_in
length_hand_in n m bs = omega (arith, length_records_in m bs n)

pub records_in_none : (d bs : List ℕ) (m : ℕ) → d ≡ placed d 1 (records_in m bs 0)
unfolding records_in
records_in_none d bs m = sym (placed_none d 1)

pub records_in_turn : (d h h' bs : List ℕ) (n m j to from : ℕ) → length d ≡ hand_length n m → j < n → to ≡ record_start m j → from ≡ record_offset m j → h ≡ placed d 1 (records_in m bs j) → h' ≡ placed h (1 + to) (record_in m bs from) → h' ≡ placed d 1 (records_in m bs (j + 1))
unfolding records_in
records_in_turn d h h' bs n m j to from size lt there here before after =
    let sofar = length_records_in m bs j in
    let this = length_words_at bs (record_offset m j + 8) m in
    let room = row_room j n (record_length m) lt in
    let next : j + 1 ≡ suc j = omega arith in
    after
    ∙ (λ i. placed (before i) (1 + there i) (record_in m bs (here i)))
    ∙ placed_more d 1 (1 + record_start m j) (records_in m bs j) (record_in m bs (record_offset m j)) (omega arith) (omega arith)
    ∙ ap (λ k. placed d 1 (records_in m bs k)) (sym next)

pub hand_filled : (d h₁ h₂ bs : List ℕ) (n m x : ℕ) → length d ≡ hand_length n m → x ≡ word_at bs 4 → h₁ ≡ set d 0 x → h₂ ≡ placed h₁ 1 (records_in m bs n) → h₂ ≡ hand_in n m bs
unfolding hand_in
hand_filled d h₁ h₂ bs n m x size e e₁ e₂ =
    let long = length_records_in m bs n in
    e₂
    ∙ ap (λ h. placed h 1 (records_in m bs n)) (e₁ ∙ set_placed d 0 x (omega arith))
    ∙ placed_more d 0 1 (x ∷ []) (records_in m bs n) refl (omega arith)
    ∙ placed_all d (x ∷ records_in m bs n) (omega arith)
    ∙ ap (λ y. y ∷ records_in m bs n) e
