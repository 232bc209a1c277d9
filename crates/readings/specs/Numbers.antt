-- Numbers, the kind of reading with code 1: a word in two's complement. Assumes nothing.
use Rattle.std.specs.Prelude.{ℕ, Bool, false, ℤ, pos, negsuc, ◌+ℤ◌, ◌-ℤ◌, FitsSigned, ◌==◌, int_le}
use Rattle.std.proofs.Common.{to_z, of_z}
use Rattle.std.specs.Int.{saturate_to_bits, w32}
use Rattle.readings.specs.Kinds.{Kind}
use Rattle.readings.specs.declared.number.Number.{Number}

abbrev pub number_code : ℕ
number_code = 1

-- the integers from −2³¹ to 2³¹ − 1
abbrev pub held_number : Number → Type 0
held_number a = FitsSigned w32 a.value

abbrev pub number_word : Number → ℕ
number_word a = of_z w32 a.value

abbrev pub word_number : ℕ → Number
word_number w = record { value = to_z w32 w }

-- held at the ends of the range
abbrev pub sum : Number → Number → Number
sum a b = record { value = saturate_to_bits 31 (a.value +ℤ b.value) }

abbrev pub difference : Number → Number → Number
difference a b = record { value = saturate_to_bits 31 (a.value -ℤ b.value) }

abbrev pub at_most : Number → Number → Bool
at_most a b = int_le a.value b.value

abbrev pub same_integer : ℤ → ℤ → Bool
same_integer (pos m) (pos n) = m == n
same_integer (pos m) (negsuc n) = false
same_integer (negsuc m) (pos n) = false
same_integer (negsuc m) (negsuc n) = m == n

abbrev pub same_number : Number → Number → Bool
same_number a b = same_integer a.value b.value

abbrev pub numbers : Kind Number
numbers = record {
  word = number_word;
  reading = word_number;
  joined = sum;
  less = difference;
  inside = at_most;
  equal = same_number;
}
