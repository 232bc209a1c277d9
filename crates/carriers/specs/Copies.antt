-- A copy's bytes: code, sender, and an array of records, each a count and an array of words. Assumes nothing.
use Rattle.std.specs.Prelude.{ℕ, zero, suc, ◌+◌, ◌*◌, Bool, cond, ◌&&◌, ltb, List, [], ◌∷◌, ◌++◌, length, drop, Ok, Result, ◌==◌, nat_eq, nat_lt, slice_index}
use Rattle.std.specs.List.{flat_map}
use Rattle.step.specs.Records.{hand_length, hand_records, record_of}
use Rattle.table.specs.Tables.{every, is_word, words_at}
use Rattle.table.specs.Wire.{and_then, field, refuse, tested_field, word_at, word_bytes}
use Rattle.table.specs.declared.fault.Fault.{Fault}
use Rattle.table.specs.declared.fault.Reason.TheVariants.{Copy}

-- Lengths and offsets in bytes

-- a record: its count, its words' count, and m words
abbrev pub record_size : ℕ → ℕ
record_size m = 8 + 4 * m

-- where record j begins
abbrev pub record_offset : ℕ → ℕ → ℕ
record_offset m j = 12 + j * record_size m

abbrev pub copy_length : ℕ → ℕ → ℕ
copy_length n m = record_offset m n

-- The bytes of a copy

-- the fields of one record of a hand
abbrev pub record_fields : ℕ → List ℕ → List ℕ
record_fields m r = slice_index r 0 ∷ m ∷ drop 1 r

-- the fields of the first k records
unfoldable pub records_fields : ℕ → List ℕ → ℕ → List ℕ
records_fields m rs zero = []
records_fields m rs (suc k) = records_fields m rs k ++ record_fields m (record_of m rs k)

abbrev pub copy_fields : ℕ → ℕ → ℕ → List ℕ → List ℕ
copy_fields code n m hand = code ∷ slice_index hand 0 ∷ n ∷ records_fields m (hand_records hand) n

unfoldable pub copy_bytes : ℕ → ℕ → ℕ → List ℕ → List ℕ
copy_bytes code n m hand = flat_map word_bytes (copy_fields code n m hand)

-- a hand that is a copy for n switches and m nodes: whole, from a switch below n
abbrev pub sound_copy : ℕ → ℕ → List ℕ → Bool
sound_copy n m hand = length hand == hand_length n m && (nat_lt (slice_index hand 0) n && every is_word hand)

-- The hand that stands in bytes

abbrev pub record_in : ℕ → List ℕ → ℕ → List ℕ
record_in m bs at = word_at bs at ∷ words_at bs (at + 8) m

-- the first k records
unfoldable pub records_in : ℕ → List ℕ → ℕ → List ℕ
records_in m bs zero = []
records_in m bs (suc k) = records_in m bs k ++ record_in m bs (record_offset m k)

unfoldable pub hand_in : ℕ → ℕ → List ℕ → List ℕ
hand_in n m bs = word_at bs 4 ∷ records_in m bs n

-- Reading the bytes, field by field

-- a field whose value has to pass a test
abbrev pub required : (ℕ → Bool) → List ℕ → ℕ → Result ℕ Fault
required = tested_field Copy Copy

-- the first k of a row of parts, each read once those before it are
unfoldable pub each_read : {X : Type 0} → (ℕ → Result X Fault) → ℕ → Result (Unit {0}) Fault
each_read part zero = Ok tt
each_read part (suc k) = and_then (each_read part k) (λ _. and_then (part k) (λ _. Ok tt))

unfoldable pub record_read : ℕ → List ℕ → ℕ → Result (Unit {0}) Fault
record_read m bs at =
    and_then (field Copy bs at) (λ _.
    and_then (required (λ w. nat_eq w m) bs (at + 4)) (λ _.
    each_read (λ i. field Copy bs (at + 8 + i * 4)) m))

abbrev pub records_read : ℕ → ℕ → List ℕ → Result (Unit {0}) Fault
records_read n m bs = each_read (λ j. record_read m bs (record_offset m j)) n

unfoldable pub header_read : ℕ → ℕ → List ℕ → Result (Unit {0}) Fault
header_read code n bs =
    and_then (required (λ w. nat_eq w code) bs 0) (λ _.
    and_then (required (λ w. ltb w n) bs 4) (λ _.
    and_then (required (λ w. nat_eq w n) bs 8) (λ _. Ok tt)))

-- the bytes of one copy and no more
unfoldable pub copy_read : ℕ → ℕ → ℕ → List ℕ → Result (Unit {0}) Fault
copy_read code n m bs =
    and_then (header_read code n bs) (λ _.
    and_then (records_read n m bs) (λ _.
    cond (copy_length n m == length bs) (Ok tt) (refuse Copy (copy_length n m))))

-- the copy that is all of bs, as a hand
abbrev pub copy_alone : ℕ → ℕ → ℕ → List ℕ → Result (List ℕ) Fault
copy_alone code n m bs = and_then (copy_read code n m bs) (λ _. Ok (hand_in n m bs))
