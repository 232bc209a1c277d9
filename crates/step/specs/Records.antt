-- Lengths and places of records, blocks and hands, in words. A record is a count and m words, one for each node;
-- a block is n records, one for each switch, and then one switch's registers; a hand is a sender and n records.
-- Assumes nothing.
use Rattle.std.specs.Prelude.{ℕ, ◌+◌, ◌*◌, Bool, List, take, drop, nat_lt, slice_index}
use Rattle.std.proofs.Math.Seq.{paste}
use Rattle.table.specs.Limits.{register_count}

abbrev pub record_length : ℕ → ℕ
record_length m = m + 1

-- where record j begins, in n records that follow one another
abbrev pub record_start : ℕ → ℕ → ℕ
record_start m j = j * record_length m

abbrev pub records_length : ℕ → ℕ → ℕ
records_length n m = n * record_length m

abbrev pub block_length : ℕ → ℕ → ℕ
block_length n m = records_length n m + register_count

abbrev pub hand_length : ℕ → ℕ → ℕ
hand_length n m = 1 + records_length n m

-- record j of some records that follow one another
abbrev pub record_of : ℕ → List ℕ → ℕ → List ℕ
record_of m records j = take (record_length m) (drop (record_start m j) records)

-- the records with record j replaced
abbrev pub put_record : ℕ → List ℕ → ℕ → List ℕ → List ℕ
put_record m records j r = paste records (record_start m j) r (record_length m)

-- a record's count stands first
abbrev pub count_of : List ℕ → ℕ
count_of r = slice_index r 0

-- one record of a switch is newer than another of that switch
abbrev pub newer : List ℕ → List ℕ → Bool
newer r q = nat_lt (count_of q) (count_of r)

-- the registers of a block, after its n records
abbrev pub registers_of : ℕ → ℕ → List ℕ → List ℕ
registers_of n m block = take register_count (drop (records_length n m) block)

-- the records of a hand, after its sender
abbrev pub hand_records : List ℕ → List ℕ
hand_records hand = drop 1 hand
