-- Bytes that stand at an offset of a list, and the words among them. Assumes nothing.
use Rattle.std.proofs.Common.{◌≡◌, ℕ, zero, suc, ◌+◌, ◌-◌, ◌*◌, ◌/◌, ◌%◌, ◌^◌, ◌<◌, ◌≤◌, Bool, true, false, cond, List, [], ◌++◌, length, get_or, take, Ok, Err, Result, sym, refl, ap, ◌∙◌, subst, inl, inr, arith, length-append}
use Rattle.std.proofs.ByRecursion.{All-get_or}
use Rattle.std.proofs.lemmas.List.{get_or_append_left, get_or-append_right, get_or-append-add, get_or-take, ext_get_or, length-take-le}
use Rattle.std.proofs.lemmas.Bool.{cases_lt, leb-true, le-leb, cond-true}
use Rattle.table.specs.TableLaws.{Bytes}
use Rattle.table.specs.Tables.{tested}
use Rattle.table.specs.Wire.{word_at, word_bytes, field, and_then, tested_field}
use Rattle.table.specs.declared.fault.Fault.{Fault}
use Rattle.table.specs.declared.fault.Reason.{Reason}
use Rattle.table.specs.declared.fault.Reason.TheVariants as why

-- ys stands in bs at offset i
pub record Stands (bs : List ℕ) (i : ℕ) (ys : List ℕ) : Type 0 where
  pub room : i + length ys ≤ length bs
  pub same : (k : ℕ) → k < length ys → get_or bs (i + k) 0 ≡ get_or ys k 0

pub stands_none : (bs : List ℕ) (i : ℕ) → i ≤ length bs → Stands bs i []
stands_none bs i h = record { room = omega arith; same = λ k l. absurd (omega arith) }

-- the same at an offset that is written in another way
pub stands_at : (bs : List ℕ) (i j : ℕ) (ys : List ℕ) → i ≡ j → Stands bs i ys → Stands bs j ys
stands_at bs i j ys e h = subst (λ k. Stands bs k ys) e h

pub stands_left : (bs : List ℕ) (i : ℕ) (xs ys : List ℕ) → Stands bs i (xs ++ ys) → Stands bs i xs
stands_left bs i xs ys h = record {
  room = omega (arith, h.room, length-append xs ys);
  same = λ k l. h.same k (omega (arith, length-append xs ys)) ∙ get_or_append_left xs ys 0 k l;
}

pub stands_right : (bs : List ℕ) (i n : ℕ) (xs ys : List ℕ) → length xs ≡ n → Stands bs i (xs ++ ys) → Stands bs (i + n) ys
stands_right bs i n xs ys e h = record {
  room = omega (arith, h.room, length-append xs ys);
  same = λ k l. ap (λ j. get_or bs j 0) (omega arith) ∙ h.same (length xs + k) (omega (arith, length-append xs ys)) ∙ get_or-append-add xs ys k 0;
}

pub stands_append : (bs : List ℕ) (i n : ℕ) (xs ys : List ℕ) → length xs ≡ n → Stands bs i xs → Stands bs (i + n) ys → Stands bs i (xs ++ ys)
stands_append bs i n xs ys e h g = record {
  room = omega (arith, g.room, length-append xs ys);
  same = λ k l. elim (cases_lt k (length xs)) [
    | inl m ↦ h.same k m ∙ sym (get_or_append_left xs ys 0 k m)
    | inr m ↦ later k l m
  ];
}
  where
    later : (k : ℕ) → k < length (xs ++ ys) → length xs ≤ k → get_or bs (i + k) 0 ≡ get_or (xs ++ ys) k 0
    later k l m =
        ap (λ j. get_or bs j 0) (omega arith) ∙ g.same (k - n) (omega (arith, length-append xs ys)) ∙ sym (get_or-append_right xs ys n k 0 e (omega arith))

-- the front of bs
pub stands_front : (ys rest : List ℕ) → Stands (ys ++ rest) 0 ys
stands_front ys rest = record {
  room = omega (arith, length-append ys rest);
  same = λ k l. ap (λ j. get_or (ys ++ rest) j 0) (omega arith) ∙ get_or_append_left ys rest 0 k l;
}

pub front_stands : (bs ys : List ℕ) → Stands bs 0 ys → ys ≡ take (length ys) bs
front_stands bs ys h = ext_get_or 0 ys (take (length ys) bs) (sym (length-take-le (length ys) bs (omega (arith, h.room))))
    (λ k l. sym (get_or-take (length ys) bs k 0 l ∙ ap (λ j. get_or bs j 0) (omega arith) ∙ h.same k l))

-- Words

-- four bytes are the bytes of their word
record Four (a b c d w : ℕ) : Type 0 where
  first : w / 16777216 ≡ a
  second : w / 65536 % 256 ≡ b
  third : w / 256 % 256 ≡ c
  fourth : w % 256 ≡ d
  small : w < 2 ^ 32

four : (a b c d w : ℕ) → a < 256 → b < 256 → c < 256 → d < 256 → w ≡ a * 16777216 + b * 65536 + c * 256 + d → Four a b c d w
four a b c d w ha hb hc hd e = record { first = omega arith; second = omega arith; third = omega arith; fourth = omega arith; small = omega arith }

module _ (bs : List ℕ) (i : ℕ) (bytes : Bytes bs) (room : i + 4 ≤ length bs) where
  word_four : Four (get_or bs i 0) (get_or bs (i + 1) 0) (get_or bs (i + 2) 0) (get_or bs (i + 3) 0) (word_at bs i)
  unfolding word_at
  word_four = four _ _ _ _ _ (byte i (omega arith)) (byte (i + 1) (omega arith)) (byte (i + 2) (omega arith)) (byte (i + 3) (omega arith)) refl
    where
      byte : (j : ℕ) → j < length bs → get_or bs j 0 < 256
      byte j h = All-get_or (λ b. b < 256) bs j 0 h bytes

  pub word_small : word_at bs i < 2 ^ 32
  word_small = word_four.small

  pub word_stands : Stands bs i (word_bytes (word_at bs i))
  word_stands = record { room = room; same = at }
    where
      at : (k : ℕ) → k < 4 → get_or bs (i + k) 0 ≡ get_or (word_bytes (word_at bs i)) k 0
      at zero h = ap (λ j. get_or bs j 0) (omega arith) ∙ sym word_four.first
      at (suc zero) h = sym word_four.second
      at (suc (suc zero)) h = sym word_four.third
      at (suc (suc (suc zero))) h = sym word_four.fourth
      at (suc (suc (suc (suc k)))) h = absurd (omega arith)

pub word_read : (bs : List ℕ) (i w : ℕ) → Stands bs i (word_bytes w) → word_at bs i ≡ w
unfolding word_at
word_read bs i w h =
    let a : get_or bs i 0 ≡ w / 16777216 = ap (λ j. get_or bs j 0) (omega arith) ∙ h.same 0 (omega arith) in
    let b : get_or bs (i + 1) 0 ≡ w / 65536 % 256 = h.same 1 (omega arith) in
    let c : get_or bs (i + 2) 0 ≡ w / 256 % 256 = h.same 2 (omega arith) in
    let d : get_or bs (i + 3) 0 ≡ w % 256 = h.same 3 (omega arith) in
    omega arith

-- One answer after another

pub and_then_parts : {A B : Type 0} (r : Result A Fault) (f : A → Result B Fault) (y : B) → and_then r f ≡ Ok y → (x : A) × (r ≡ Ok x) × (f x ≡ Ok y)
and_then_parts (Ok x) f y h = (x, refl, h)
and_then_parts {B} (Err e) f y h = absurd (no h)
  where
    no : ◌≡◌ {A = Result B Fault} (Err e) (Ok y) → ⊥
    no g = let z : ◌≡◌ {A = ℕ} 0 1 = cc in omega arith

pub and_then_from : {A B : Type 0} (r : Result A Fault) (f : A → Result B Fault) (x : A) (y : B) → r ≡ Ok x → f x ≡ Ok y → and_then r f ≡ Ok y
and_then_from r f x y e h = rw e h

pub cond_parts : {A : Type 0} (b : Bool) (x y : A) (e : Fault) → ◌≡◌ {A = Result A Fault} (cond b (Ok x) (Err e)) (Ok y) → (b ≡ true) × (x ≡ y)
cond_parts true x y e h = (refl, cc)
cond_parts false x y e h = let z : ◌≡◌ {A = ℕ} 0 1 = cc in absurd (omega arith)

pub ok_same : {A : Type 0} (x y : A) → ◌≡◌ {A = Result A Fault} (Ok x) (Ok y) → x ≡ y
ok_same x y h = cc

pub field_parts : (why : Reason) (bs : List ℕ) (i w : ℕ) → field why bs i ≡ Ok w → (i + 4 ≤ length bs) × (word_at bs i ≡ w)
unfolding field
field_parts why bs i w h = let p = cond_parts _ _ _ _ h in (leb-true _ _ p.0, p.1)

pub field_from : (why : Reason) (bs : List ℕ) (i w : ℕ) → Stands bs i (word_bytes w) → field why bs i ≡ Ok w
unfolding field
field_from why bs i w h = cond-true _ _ _ (le-leb _ _ h.room) ∙ ap Ok (word_read bs i w h)

pub field_stands : (why : Reason) (bs : List ℕ) (i w : ℕ) → Bytes bs → field why bs i ≡ Ok w → Stands bs i (word_bytes w) × (w < 2 ^ 32)
field_stands why bs i w bytes h =
    let p = field_parts why bs i w h in
    (subst (λ v. Stands bs i (word_bytes v)) p.1 (word_stands bs i bytes p.0), subst (λ v. v < 2 ^ 32) p.1 (word_small bs i bytes p.0))

pub tested_parts : (ok : ℕ → Bool) (bs : List ℕ) (i w : ℕ) → tested ok bs i ≡ Ok w → (field why.TableLength bs i ≡ Ok w) × (ok w ≡ true)
unfolding tested_field
tested_parts ok bs i w h =
    let p = and_then_parts (field why.TableLength bs i) _ w h in
    let q = cond_parts _ _ _ _ p.2 in
    (p.1 ∙ ap Ok q.1, subst (λ v. ok v ≡ true) q.1 q.0)

pub tested_from : (ok : ℕ → Bool) (bs : List ℕ) (i w : ℕ) → Stands bs i (word_bytes w) → ok w ≡ true → tested ok bs i ≡ Ok w
unfolding tested_field
tested_from ok bs i w h e = and_then_from _ _ w w (field_from why.TableLength bs i w h) (cond-true _ _ _ e)
