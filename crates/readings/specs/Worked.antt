-- Worked values of the two kinds of reading. Assumes nothing.
use Rattle.std.specs.Prelude.{◌≡◌, pos, negsuc}
use Rattle.readings.specs.Numbers.{sum, difference}
use Rattle.readings.specs.Ports.{without, ports_word, word_ports}

-- A sum and a difference held at the ends of the range, −2147483648 being `negsuc 2147483647`, and a difference of port sets.
abbrev pub WorkedReadings : Type 0
WorkedReadings =
    ((sum (record { value = pos 2147483647 }) (record { value = pos 1 })).value ≡ pos 2147483647)
    × ((difference (record { value = negsuc 2147483647 }) (record { value = pos 1 })).value ≡ negsuc 2147483647)
    × (ports_word (without (word_ports 7) (word_ports 2)) ≡ 5)
