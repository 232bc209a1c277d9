-- Port sets, the kind of reading with code 2: a word stands for the set of the ports whose binary digit in it is 1. Assumes nothing.
use Rattle.std.specs.Prelude.{◌≡◌, ℕ, zero, suc, ◌+◌, ◌*◌, ◌/◌, ◌%◌, ◌^◌, ◌<◌, Bool, true, cond, not, ◌&&◌, ◌||◌, ◌⊎◌, ◌↔◌, ◌==◌}
use Rattle.std.specs.Bool.{beq}
use Rattle.readings.specs.Kinds.{Kind}
use Rattle.readings.specs.declared.ports.Ports.{Ports}

abbrev pub port_code : ℕ
port_code = 2

abbrev pub port_count : ℕ
port_count = 32

-- port p is in the set of the word w
unfoldable pub has : ℕ → ℕ → Bool
has w zero = w % 2 == 1
has w (suc p) = has (w / 2) p

-- the word of the ports below k that f picks
unfoldable pub collect : ℕ → (ℕ → Bool) → ℕ
collect zero f = 0
collect (suc k) f = cond (f 0) 1 0 + 2 * collect k (λ p. f (suc p))

-- f picks every port below k
unfoldable pub all_below : ℕ → (ℕ → Bool) → Bool
all_below zero f = true
all_below (suc k) f = f k && all_below k f

-- no port at or above the count
abbrev pub held_ports : Ports → Type 0
held_ports a = a.bits < 2 ^ port_count

abbrev pub ports_word : Ports → ℕ
ports_word a = a.bits

abbrev pub word_ports : ℕ → Ports
word_ports w = record { bits = w }

-- the ports in a or in b
abbrev pub union : Ports → Ports → Ports
union a b = record { bits = collect port_count (λ p. has a.bits p || has b.bits p) }

-- the ports of a that are not in b
abbrev pub without : Ports → Ports → Ports
without a b = record { bits = collect port_count (λ p. has a.bits p && not (has b.bits p)) }

-- every port of a is in b
abbrev pub subset : Ports → Ports → Bool
subset a b = all_below port_count (λ p. not (has a.bits p) || has b.bits p)

-- every port is in both or in neither
abbrev pub same_ports : Ports → Ports → Bool
same_ports a b = all_below port_count (λ p. beq (has a.bits p) (has b.bits p))

abbrev pub port_sets : Kind Ports
port_sets = record {
  word = ports_word;
  reading = word_ports;
  joined = union;
  less = without;
  inside = subset;
  equal = same_ports;
}

-- port p is a member of the set a
abbrev pub Member : ℕ → Ports → Type 0
Member p a = has a.bits p ≡ true

-- The operations are those of sets: union, difference, inclusion, and equality, which is that of the words.
abbrev pub PortsAreSets : Type 0
PortsAreSets =
    (a b : Ports) → held_ports a → held_ports b
    → ((p : ℕ) → p < port_count → Member p (union a b) ↔ (Member p a ⊎ Member p b))
    × ((p : ℕ) → p < port_count → Member p (without a b) ↔ (Member p a × (Member p b → ⊥)))
    × ((subset a b ≡ true) ↔ ((p : ℕ) → p < port_count → Member p a → Member p b))
    × ((same_ports a b ≡ true) ↔ (ports_word a ≡ ports_word b))
