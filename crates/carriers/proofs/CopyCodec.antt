-- Reading a copy's bytes undoes writing them. Assumes nothing.
use Rattle.std.proofs.Common.{◌≡◌, ℕ, zero, suc, ◌+◌, ◌*◌, ◌<◌, ◌≤◌, Bool, true, eqb, ltb, List, [], ◌∷◌, ◌++◌, length, get_or, take, drop, Ok, sym, refl, ap, ◌∙◌, subst, inl, inr, suc-mul, arith, length-drop}
use Rattle.std.proofs.lemmas.List.{drop-append-le, drop_at, take_all, take-append-le}
use Rattle.std.proofs.lemmas.Bool.{and_from, and_parts, cases_eq, cond-true, eq-eqb, eqb-true, lt-ltb, ltb-true}
use Rattle.std.specs.List.{flat_map}
use Rattle.step.specs.Records.{hand_length, hand_records, record_length, record_of, records_length}
use Rattle.table.proofs.TableCodec.{length_words_at}
use Rattle.table.proofs.Words.{Stands, stands_none, stands_at, stands_left, stands_right, stands_append, front_stands, word_read, word_small, word_stands, and_then_parts, and_then_from, cond_parts, ok_same, field_parts, field_from}
use Rattle.table.specs.TableLaws.{Bytes}
use Rattle.table.specs.Tables.{every, is_word, words_at}
use Rattle.table.specs.Wire.{and_then, field, word_at, word_bytes, tested_field}
use Rattle.table.specs.declared.fault.Reason.TheVariants.{Copy}
use Rattle.carriers.proofs.CopyWrites.{joined_append, length_copy_bytes, length_hand_in, length_record_of, length_records_fields, length_records_in}
use Rattle.carriers.proofs.EachRead.{each_from, each_parts}
use Rattle.carriers.proofs.Rows.{row_room}
use Rattle.carriers.specs.Copies.{copy_bytes, copy_length, copy_read, hand_in, header_read, record_fields, record_in, record_offset, record_read, record_size, records_fields, records_in, records_read, required, sound_copy}
use Rattle.carriers.specs.CopyLaws.{CopyLaws}

-- What stands in bytes is read as it is

words_back : (bs ws : List ℕ) (at : ℕ) → Stands bs at (flat_map word_bytes ws) → words_at bs at (length ws) ≡ ws
unfolding words_at
words_back bs [] at h = refl
words_back bs (w ∷ ws) at h =
    let first = word_read bs at w (stands_left bs at (word_bytes w) (flat_map word_bytes ws) h) in
    let rest = words_back bs ws (at + 4) (stands_right bs at 4 (word_bytes w) (flat_map word_bytes ws) refl h) in
    cc

first_and_rest : (r : List ℕ) (m : ℕ) → length r ≡ m + 1 → get_or r 0 0 ∷ drop 1 r ≡ r
first_and_rest [] m e = let z : ⊥ = omega arith in elim z [ ]
first_and_rest (x ∷ r) m e = refl

-- the parts of a record's fields
record RecordStands (bs : List ℕ) (at m : ℕ) (r : List ℕ) : Type 0 where
  first : Stands bs at (word_bytes (get_or r 0 0))
  many : Stands bs (at + 4) (word_bytes m)
  words : Stands bs (at + 8) (flat_map word_bytes (drop 1 r))

record_parts : (bs : List ℕ) (at m : ℕ) (r : List ℕ) → Stands bs at (flat_map word_bytes (record_fields m r)) → RecordStands bs at m r
record_parts bs at m r h =
    let rest = stands_right bs at 4 (word_bytes (get_or r 0 0)) (word_bytes m ++ flat_map word_bytes (drop 1 r)) refl h in
    record {
      first = stands_left bs at (word_bytes (get_or r 0 0)) (word_bytes m ++ flat_map word_bytes (drop 1 r)) h;
      many = stands_left bs (at + 4) (word_bytes m) (flat_map word_bytes (drop 1 r)) rest;
      words = stands_at bs (at + 4 + 4) (at + 8) _ (omega arith) (stands_right bs (at + 4) 4 (word_bytes m) (flat_map word_bytes (drop 1 r)) refl rest);
    }

record_back : (bs : List ℕ) (at m : ℕ) (r : List ℕ) → length r ≡ record_length m → RecordStands bs at m r → record_in m bs at ≡ r
record_back bs at m r long h =
    let first = word_read bs at (get_or r 0 0) h.first in
    let tail : length (drop 1 r) ≡ m = length-drop 1 r ∙ omega arith in
    let words : words_at bs (at + 8) m ≡ drop 1 r = ap (words_at bs (at + 8)) (sym tail) ∙ words_back bs (drop 1 r) (at + 8) h.words in
    (λ i. first i ∷ words i) ∙ first_and_rest r m long

take_add : (a b : ℕ) (xs : List ℕ) → take (a + b) xs ≡ take a xs ++ take b (drop a xs)
take_add zero b xs = ap (λ k. take k xs) (omega arith)
take_add (suc a) b [] = let e : suc a + b ≡ suc (a + b) = omega arith in ap (λ k. take k []) e ∙ none b
  where
    none : (k : ℕ) → [] ≡ take {A = ℕ} k []
    none zero = refl
    none (suc k) = refl
take_add (suc a) b (x ∷ xs) = let e : suc a + b ≡ suc (a + b) = omega arith in ap (λ k. take k (x ∷ xs)) e ∙ ap (λ r. x ∷ r) (take_add a b xs)

module _ (bs : List ℕ) (n m : ℕ) (rs : List ℕ) (long : length rs ≡ records_length n m) where
  -- one record among all
  record_there : (k j : ℕ) → k ≤ n → j < k → Stands bs 12 (flat_map word_bytes (records_fields m rs k)) → RecordStands bs (record_offset m j) m (record_of m rs j)
  unfolding records_fields
  record_there zero j le lt h = let z : ⊥ = omega arith in elim z [ ]
  record_there (suc k) j le lt h =
      let whole = subst (Stands bs 12) (joined_append (records_fields m rs k) (record_fields m (record_of m rs k))) h in
      elim (cases_eq j k) [
        | inl e ↦
            record_parts bs (record_offset m j) m (record_of m rs j)
            (subst (λ i. Stands bs (record_offset m i) (flat_map word_bytes (record_fields m (record_of m rs i)))) (sym e)
            (stands_right bs 12 (k * record_size m) (flat_map word_bytes (records_fields m rs k)) (flat_map word_bytes (record_fields m (record_of m rs k))) (length_records_fields m n rs long k (omega arith)) whole))
        | inr e ↦ record_there k j (omega arith) (omega arith) (stands_left bs 12 (flat_map word_bytes (records_fields m rs k)) (flat_map word_bytes (record_fields m (record_of m rs k))) whole)
      ]

  records_back : Stands bs 12 (flat_map word_bytes (records_fields m rs n)) → (k : ℕ) → k ≤ n → records_in m bs k ≡ take (k * record_length m) rs
  unfolding records_in
  records_back h zero le = let none : 0 ≡ 0 * record_length m = omega arith in ap (λ i. take i rs) none
  records_back h (suc k) le =
      let this = record_back bs (record_offset m k) m (record_of m rs k) (length_record_of m n k rs long (omega arith)) (record_there n k (omega arith) (omega arith) h) in
      let next : k * record_length m + record_length m ≡ suc k * record_length m = sym (suc-mul k (record_length m)) in
      (λ i. records_back h k (omega arith) i ++ this i) ∙ sym (take_add (k * record_length m) (record_length m) rs) ∙ ap (λ i. take i rs) next

-- the fields of a copy where they stand
record CopyStands (bs : List ℕ) (code n m : ℕ) (hand : List ℕ) : Type 0 where
  coded : Stands bs 0 (word_bytes code)
  sent : Stands bs 4 (word_bytes (get_or hand 0 0))
  counted : Stands bs 8 (word_bytes n)
  records : Stands bs 12 (flat_map word_bytes (records_fields m (hand_records hand) n))

stands_self : (bs : List ℕ) → Stands bs 0 bs
stands_self bs = record { room = omega arith; same = λ k l. ap (λ j. get_or bs j 0) (omega arith) }

copy_parts : (code n m : ℕ) (hand bs : List ℕ) → Stands bs 0 (copy_bytes code n m hand) → CopyStands bs code n m hand
unfolding copy_bytes
copy_parts code n m hand bs h =
    let rs = flat_map word_bytes (records_fields m (hand_records hand) n) in
    let one = stands_right bs 0 4 (word_bytes code) (word_bytes (get_or hand 0 0) ++ (word_bytes n ++ rs)) refl h in
    let two = stands_right bs 4 4 (word_bytes (get_or hand 0 0)) (word_bytes n ++ rs) refl one in
    record {
      coded = stands_left bs 0 (word_bytes code) (word_bytes (get_or hand 0 0) ++ (word_bytes n ++ rs)) h;
      sent = stands_left bs 4 (word_bytes (get_or hand 0 0)) (word_bytes n ++ rs) one;
      counted = stands_left bs 8 (word_bytes n) rs two;
      records = stands_right bs 8 4 (word_bytes n) rs refl two;
    }

-- the hand that was written is the hand that is read
pub hand_back : (code n m : ℕ) (hand bs : List ℕ) → length hand ≡ hand_length n m → copy_bytes code n m hand ≡ bs → hand_in n m bs ≡ hand
unfolding hand_in
hand_back code n m hand bs long e =
    let s = copy_parts code n m hand bs (subst (Stands bs 0) (sym e) (stands_self bs)) in
    let rs : length (hand_records hand) ≡ records_length n m = length-drop 1 hand ∙ omega arith in
    let first = word_read bs 4 (get_or hand 0 0) s.sent in
    let rest = records_back bs n m (hand_records hand) rs s.records n (omega arith) ∙ take_all (n * record_length m) (hand_records hand) (omega arith) in
    (λ i. first i ∷ rest i) ∙ first_and_rest hand (records_length n m) (long ∙ omega arith)

-- Every copy's encoding is accepted

required_from : (ok : ℕ → Bool) (bs : List ℕ) (i w : ℕ) → Stands bs i (word_bytes w) → ok w ≡ true → required ok bs i ≡ Ok w
unfolding tested_field
required_from ok bs i w h e = and_then_from _ _ w w (field_from Copy bs i w h) (cond-true _ _ _ e)

word_there : (bs ws : List ℕ) (at k : ℕ) → Stands bs at (flat_map word_bytes ws) → k < length ws → Stands bs (at + k * 4) (word_bytes (get_or ws k 0))
word_there bs [] at k h lt = let z : ⊥ = omega arith in elim z [ ]
word_there bs (w ∷ ws) at zero h lt = stands_at bs at (at + 0 * 4) _ (omega arith) (stands_left bs at (word_bytes w) (flat_map word_bytes ws) h)
word_there bs (w ∷ ws) at (suc k) h lt =
    stands_at bs (at + 4 + k * 4) (at + suc k * 4) _ (omega arith) (word_there bs ws (at + 4) k (stands_right bs at 4 (word_bytes w) (flat_map word_bytes ws) refl h) (omega arith))

record_accepted : (bs : List ℕ) (at m : ℕ) (r : List ℕ) → length r ≡ record_length m → RecordStands bs at m r → record_read m bs at ≡ Ok tt
unfolding record_read
record_accepted bs at m r long h =
    and_then_from _ _ _ _ (field_from Copy bs at (get_or r 0 0) h.first)
    (and_then_from _ _ _ _ (required_from (λ w. eqb w m) bs (at + 4) m h.many (eq-eqb m m refl))
    (each_from (λ i. field Copy bs (at + 8 + i * 4)) (λ i. get_or (drop 1 r) i 0) m
    (λ i lt. field_from Copy bs (at + 8 + i * 4) _ (word_there bs (drop 1 r) (at + 8) i h.words (omega (arith, length-drop 1 r))))))

copy_accepted : (code n m : ℕ) (hand bs : List ℕ) → length hand ≡ hand_length n m → get_or hand 0 0 < n → copy_bytes code n m hand ≡ bs → copy_read code n m bs ≡ Ok tt
unfolding copy_read header_read
copy_accepted code n m hand bs long below e =
    let s = copy_parts code n m hand bs (subst (Stands bs 0) (sym e) (stands_self bs)) in
    let rs : length (hand_records hand) ≡ records_length n m = length-drop 1 hand ∙ omega arith in
    let size : copy_length n m ≡ length bs = sym (length_copy_bytes code n m hand long) ∙ ap length e in
    let header : header_read code n bs ≡ Ok tt =
    and_then_from (required (λ w. eqb w code) bs 0) (λ _. and_then (required (λ w. ltb w n) bs 4) (λ _. and_then (required (λ w. eqb w n) bs 8) (λ _. Ok tt))) code tt
    (required_from (λ w. eqb w code) bs 0 code s.coded (eq-eqb code code refl))
    (and_then_from (required (λ w. ltb w n) bs 4) (λ _. and_then (required (λ w. eqb w n) bs 8) (λ _. Ok tt)) (get_or hand 0 0) tt
    (required_from (λ w. ltb w n) bs 4 (get_or hand 0 0) s.sent (lt-ltb _ _ below))
    (and_then_from (required (λ w. eqb w n) bs 8) (λ _. Ok tt) n tt (required_from (λ w. eqb w n) bs 8 n s.counted (eq-eqb n n refl)) refl)) in
    let records : records_read n m bs ≡ Ok tt = each_from (λ j. record_read m bs (record_offset m j)) (λ _. tt) n
    (λ j lt. record_accepted bs (record_offset m j) m (record_of m (hand_records hand) j) (length_record_of m n j (hand_records hand) rs lt)
    (record_there bs n m (hand_records hand) rs n j (omega arith) lt s.records)) in
    and_then_from _ _ tt tt header (and_then_from _ _ tt tt records (cond-true _ _ _ (eq-eqb _ _ size)))

-- What is accepted is the encoding of a copy

required_parts : (ok : ℕ → Bool) (bs : List ℕ) (i w : ℕ) → required ok bs i ≡ Ok w → (i + 4 ≤ length bs) × (word_at bs i ≡ w) × (ok w ≡ true)
unfolding tested_field
required_parts ok bs i w h =
    let p = and_then_parts (field Copy bs i) _ w h in
    let q = cond_parts _ _ _ _ p.2 in
    let f = field_parts Copy bs i p.0 p.1 in
    (f.0, f.1 ∙ q.1, subst (λ v. ok v ≡ true) q.1 q.0)

-- what accepted bytes have
record Accepted (code n m : ℕ) (bs : List ℕ) : Type 0 where
  size : length bs ≡ copy_length n m
  code_is : word_at bs 0 ≡ code
  sender_below : word_at bs 4 < n
  count_is : word_at bs 8 ≡ n
  words_are : (j : ℕ) → j < n → word_at bs (record_offset m j + 4) ≡ m

accepted : (code n m : ℕ) (bs : List ℕ) → copy_read code n m bs ≡ Ok tt → Accepted code n m bs
unfolding copy_read header_read record_read
accepted code n m bs h =
    let a = and_then_parts (header_read code n bs) _ tt h in
    let b = and_then_parts (records_read n m bs) _ tt a.2 in
    let end = cond_parts _ _ _ _ b.2 in
    let c = and_then_parts (required (λ w. eqb w code) bs 0) _ tt a.1 in
    let d = and_then_parts (required (λ w. ltb w n) bs 4) _ tt c.2 in
    let e = and_then_parts (required (λ w. eqb w n) bs 8) _ tt d.2 in
    let code_field = required_parts _ bs 0 _ c.1 in
    let sender_field = required_parts _ bs 4 _ d.1 in
    let count_field = required_parts _ bs 8 _ e.1 in
    record {
      size = sym (eqb-true _ _ end.0);
      code_is = code_field.1 ∙ eqb-true _ _ code_field.2;
      sender_below = subst (λ w. w < n) (sym sender_field.1) (ltb-true _ _ sender_field.2);
      count_is = count_field.1 ∙ eqb-true _ _ count_field.2;
      words_are = λ j lt. (
          let r = each_parts (λ k. record_read m bs (record_offset m k)) n j b.1 lt in
          let f = and_then_parts (field Copy bs (record_offset m j)) _ r.0 r.1 in
          let g = and_then_parts (required (λ w. eqb w m) bs (record_offset m j + 4)) _ r.0 f.2 in
          let w = required_parts _ bs (record_offset m j + 4) _ g.1 in
          w.1 ∙ eqb-true _ _ w.2);
    }

record_of_in : (bs : List ℕ) (m n k : ℕ) → k < n → record_of m (records_in m bs n) k ≡ record_in m bs (record_offset m k)
unfolding records_in
record_of_in bs m zero k lt = let z : ⊥ = omega arith in elim z [ ]
record_of_in bs m (suc n) k lt =
    let long = length_records_in m bs n in
    elim (cases_eq k n) [
      | inl e ↦
          ap (λ i. take (record_length m) (drop (i * record_length m) (records_in m bs n ++ record_in m bs (record_offset m n)))) e
          ∙ ap (take (record_length m)) (drop_at (records_in m bs n) (record_in m bs (record_offset m n)) (n * record_length m) long)
          ∙ take_all (record_length m) (record_in m bs (record_offset m n)) (omega (arith, length_words_at bs (record_offset m n + 8) m))
          ∙ ap (λ i. record_in m bs (record_offset m i)) (sym e)
      | inr e ↦
          let room = row_room k n (record_length m) (omega arith) in
          ap (take (record_length m)) (drop-append-le (k * record_length m) (records_in m bs n) (record_in m bs (record_offset m n)) (omega arith))
          ∙ take-append-le (record_length m) (drop (k * record_length m) (records_in m bs n)) (record_in m bs (record_offset m n)) (omega (arith, length-drop (k * record_length m) (records_in m bs n)))
          ∙ record_of_in bs m n k (omega arith)
    ]

every_append : (f : ℕ → Bool) (xs ys : List ℕ) → every f xs ≡ true → every f ys ≡ true → every f (xs ++ ys) ≡ true
every_append f [] ys a b = b
every_append f (x ∷ xs) ys a b = let p = and_parts (f x) (every f xs) a in and_from _ _ p.0 (every_append f xs ys p.1 b)

module _ (bs : List ℕ) (bytes : Bytes bs) where
  words_stand : (count at : ℕ) → at + count * 4 ≤ length bs → Stands bs at (flat_map word_bytes (words_at bs at count))
  unfolding words_at
  words_stand zero at room = stands_none bs at (omega arith)
  words_stand (suc count) at room =
      stands_append bs at 4 (word_bytes (word_at bs at)) _ refl (word_stands bs at bytes (omega arith)) (words_stand count (at + 4) (omega arith))

  words_small : (count at : ℕ) → at + count * 4 ≤ length bs → every is_word (words_at bs at count) ≡ true
  unfolding words_at
  words_small zero at room = refl
  words_small (suc count) at room = and_from _ _ (lt-ltb _ _ (word_small bs at bytes (omega arith))) (words_small count (at + 4) (omega arith))

  record_stands : (at m : ℕ) → at + record_size m ≤ length bs → word_at bs (at + 4) ≡ m → Stands bs at (flat_map word_bytes (record_fields m (record_in m bs at)))
  record_stands at m room e =
      stands_append bs at 4 (word_bytes (word_at bs at)) _ refl (word_stands bs at bytes (omega arith))
      (stands_append bs (at + 4) 4 (word_bytes m) _ refl (subst (λ w. Stands bs (at + 4) (word_bytes w)) e (word_stands bs (at + 4) bytes (omega arith)))
      (stands_at bs (at + 8) (at + 4 + 4) _ (omega arith) (words_stand m (at + 8) (omega arith))))

  module _ (code n m : ℕ) (a : Accepted code n m bs) where
    records_stand : (k : ℕ) → k ≤ n → Stands bs 12 (flat_map word_bytes (records_fields m (records_in m bs n) k))
    unfolding records_fields
    records_stand zero le = stands_none bs 12 (omega (arith, a.size))
    records_stand (suc k) le =
        let room = row_room k n (record_size m) (omega arith) in
        let this = subst (λ r. Stands bs (record_offset m k) (flat_map word_bytes (record_fields m r))) (sym (record_of_in bs m n k (omega arith)))
        (record_stands (record_offset m k) m (omega (arith, a.size)) (a.words_are k (omega arith))) in
        subst (Stands bs 12) (sym (joined_append (records_fields m (records_in m bs n) k) (record_fields m (record_of m (records_in m bs n) k))))
        (stands_append bs 12 (k * record_size m) (flat_map word_bytes (records_fields m (records_in m bs n) k)) _
        (length_records_fields m n (records_in m bs n) (length_records_in m bs n) k (omega arith)) (records_stand k (omega arith)) this)

    records_small : (k : ℕ) → k ≤ n → every is_word (records_in m bs k) ≡ true
    unfolding records_in
    records_small zero le = refl
    records_small (suc k) le =
        let room = row_room k n (record_size m) (omega arith) in
        every_append is_word (records_in m bs k) _ (records_small k (omega arith))
        (and_from _ _ (lt-ltb _ _ (word_small bs (record_offset m k) bytes (omega (arith, a.size)))) (words_small m (record_offset m k + 8) (omega (arith, a.size))))

    bytes_back : copy_bytes code n m (hand_in n m bs) ≡ bs
    unfolding copy_bytes hand_in
    bytes_back =
        let room : 12 ≤ length bs = omega (arith, a.size) in
        let at_0 = subst (λ w. Stands bs 0 (word_bytes w)) a.code_is (word_stands bs 0 bytes (omega arith)) in
        let at_8 = subst (λ w. Stands bs 8 (word_bytes w)) a.count_is (word_stands bs 8 bytes (omega arith)) in
        let all : Stands bs 0 (copy_bytes code n m (hand_in n m bs)) =
        stands_append bs 0 4 (word_bytes code) _ refl at_0
        (stands_append bs 4 4 (word_bytes (word_at bs 4)) _ refl (word_stands bs 4 bytes (omega arith))
        (stands_append bs 8 4 (word_bytes n) _ refl at_8 (records_stand n (omega arith)))) in
        front_stands bs (copy_bytes code n m (hand_in n m bs)) all
        ∙ take_all (length (copy_bytes code n m (hand_in n m bs))) bs (omega (arith, length_copy_bytes code n m (hand_in n m bs) (length_hand_in n m bs), a.size))

    hand_sound : sound_copy n m (hand_in n m bs) ≡ true
    unfolding hand_in
    hand_sound =
        and_from _ _ (eq-eqb _ _ (length_hand_in n m bs))
        (and_from _ _ (lt-ltb _ _ a.sender_below)
        (and_from _ _ (lt-ltb _ _ (word_small bs 4 bytes (omega (arith, a.size)))) (records_small n (omega arith))))

pub copy_laws : (code n m : ℕ) (bs : List ℕ) → Bytes bs → CopyLaws code n m bs
copy_laws code n m bs bytes = record {
  only = λ hand h. (
      let p = and_then_parts (copy_read code n m bs) _ hand h in
      let a = accepted code n m bs p.1 in
      let same = ok_same _ _ p.2 in
      (subst (λ x. sound_copy n m x ≡ true) same (hand_sound bs bytes code n m a), ap (copy_bytes code n m) (sym same) ∙ bytes_back bs bytes code n m a));
  all = λ hand sound e. (
      let p = and_parts _ _ sound in
      let q = and_parts _ _ p.1 in
      let long = eqb-true _ _ p.0 in
      and_then_from _ _ tt hand (copy_accepted code n m hand bs long (ltb-true _ _ q.0) e) (ap Ok (hand_back code n m hand bs long e)));
  sized = λ hand h. (let p = and_then_parts (copy_read code n m bs) _ hand h in (accepted code n m bs p.1).size);
}
