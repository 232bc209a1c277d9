-- The place of a copy's refusal is within the longest copy. Assumes nothing.
use Rattle.std.proofs.Common.{◌≡◌, ℕ, zero, suc, ◌+◌, ◌*◌, ◌<◌, ◌≤◌, Bool, true, false, cond, eqb, ltb, leb, List, is_some, IfErr, Ok, Err, Result, arith}
use Rattle.std.proofs.lemmas.Bool.{and_parts, leb-true}
use Rattle.table.specs.Limits.{max_nodes, max_switches}
use Rattle.table.specs.Delivered.{kind_of}
use Rattle.table.specs.Wire.{and_then, fault, field, tested_field, between}
use Rattle.table.specs.declared.fault.Fault.{Fault}
use Rattle.table.specs.declared.fault.Reason.TheVariants.{Copy}
use Rattle.carriers.proofs.Rows.{row_most, row_room}
use Rattle.carriers.specs.Copies.{copy_length, copy_read, each_read, header_read, record_offset, record_read, record_size, records_read, required}
use Rattle.carriers.specs.CopyCalls.{in_range, known, longest_copy}

module _ (b : ℕ) where
  abbrev Below : {A : Type 0} → Result A Fault → Type 0
  Below r = IfErr r (λ e. e.place ≤ b)

  below_then : {A B : Type 0} (r : Result A Fault) (f : A → Result B Fault) → Below r → ((x : A) → Below (f x)) → Below (and_then r f)
  below_then (Ok x) f h g = g x
  below_then (Err e) f h g = h

  below_cond : {A : Type 0} (ok : Bool) (x : A) (e : Fault) → e.place ≤ b → Below {A = A} (cond ok (Ok x) (Err e))
  below_cond true x e h = tt
  below_cond false x e h = h

  below_field : (bs : List ℕ) (i : ℕ) → i ≤ b → Below (field Copy bs i)
  unfolding field
  below_field bs i h = below_cond _ _ (fault Copy i) h

  below_required : (ok : ℕ → Bool) (bs : List ℕ) (i : ℕ) → i ≤ b → Below (required ok bs i)
  unfolding tested_field
  below_required ok bs i h = below_then (field Copy bs i) _ (below_field bs i h) (λ w. below_cond (ok w) w (fault Copy i) h)

  below_each : {X : Type 0} (part : ℕ → Result X Fault) (n : ℕ) → ((j : ℕ) → j < n → Below (part j)) → Below (each_read part n)
  unfolding each_read
  below_each part zero all = tt
  below_each part (suc n) all = below_then (each_read part n) _ (below_each part n (λ j lt. all j (omega arith))) (λ u. below_then (part n) _ (all n (omega arith)) (λ x. tt))

  below_record : (m : ℕ) (bs : List ℕ) (at : ℕ) → at + record_size m ≤ b → Below (record_read m bs at)
  unfolding record_read
  below_record m bs at room =
      below_then (field Copy bs at) _ (below_field bs at (omega arith)) (λ c.
      below_then (required (λ w. eqb w m) bs (at + 4)) _ (below_required _ bs (at + 4) (omega arith)) (λ d.
      below_each (λ i. field Copy bs (at + 8 + i * 4)) m (λ i lt. below_field bs (at + 8 + i * 4) (omega arith))))

  below_copy : (code n m : ℕ) (bs : List ℕ) → copy_length n m ≤ b → Below (copy_read code n m bs)
  unfolding copy_read header_read
  below_copy code n m bs room =
      below_then (header_read code n bs) _
      (below_then (required (λ w. eqb w code) bs 0) _ (below_required _ bs 0 (omega arith)) (λ c.
      below_then (required (λ w. ltb w n) bs 4) _ (below_required _ bs 4 (omega arith)) (λ d.
      below_then (required (λ w. eqb w n) bs 8) _ (below_required _ bs 8 (omega arith)) (λ e. tt)))) (λ u.
      below_then (records_read n m bs) _
      (below_each (λ j. record_read m bs (record_offset m j)) n (λ j lt. (
      let within = row_room j n (record_size m) lt in below_record m bs (record_offset m j) (omega arith)))) (λ v.
      below_cond _ tt (fault Copy (copy_length n m)) room))

pub copy_places : (code n m : ℕ) (bs : List ℕ) → n ≤ max_switches → m ≤ max_nodes → IfErr (copy_read code n m bs) (λ e. e.place ≤ longest_copy)
copy_places code n m bs few small =
    let rows = row_most n 16 (record_size m) few in
    below_copy longest_copy code n m bs (omega arith)

pub range_few : (n m : ℕ) → in_range n m ≡ true → (n ≤ max_switches) × (m ≤ max_nodes)
range_few n m h =
    let p = and_parts (between 1 max_switches n) (between 1 max_nodes m) h in
    (leb-true _ _ (and_parts (leb 1 n) (leb n max_switches) p.0).1, leb-true _ _ (and_parts (leb 1 m) (leb m max_nodes) p.1).1)

pub known_few : (code n m : ℕ) → known code n m ≡ true → (n ≤ max_switches) × (m ≤ max_nodes)
known_few code n m h = range_few n m (and_parts (is_some (kind_of code)) (in_range n m) h).1
