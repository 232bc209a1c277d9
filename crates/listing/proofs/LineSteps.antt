-- The lines of a listing, one after another. Assumes nothing.
use Rattle.std.proofs.Common.{◌≡◌, ℕ, ◌+◌, ◌<◌, ◌≤◌, min, ◌⊎◌, List, [], ◌∷◌, ◌++◌, length, get_or, drop, Result, sym, refl, ap, ◌∙◌, inl, inr, append_assoc, append-nil, add-one, zero-add, arith, drop-cons}
use Rattle.std.proofs.lemmas.List.{drop_all}
use Rattle.std.proofs.lemmas.List.FromFn.{length-enumerate_from, get_or-enumerate_from}
use Rattle.std.proofs.lemmas.Slice.Zip.{length-zip, get_or-zip}
use Rattle.std.specs.List.{enumerate_from, zip}
use Rattle.std.proofs.lemmas.Bool.{cases_lt}
use Rattle.fleet.specs.declared.call.Call.{Call}
use Rattle.fleet.specs.declared.call.Reply.{Reply}
use Rattle.listing.specs.Texts.{line_text, lines_from, newline}
use Rattle.table.specs.declared.fault.Fault.{Fault}

-- no call without an answer has a line
lines_unanswered : (line : ℕ) (cs : List Call) → lines_from line cs [] ≡ []
lines_unanswered line [] = refl
lines_unanswered line (c ∷ cs) = refl

-- the calls with their answers, counted from 0
abbrev pub numbered : List Call → List (Result Reply Fault) → List (ℕ × (Call × Result Reply Fault))
numbered cs rs = enumerate_from 0 (zip cs rs)

module _ (cs : List Call) (rs : List (Result Reply Fault)) where
  length-numbered : length (numbered cs rs) ≡ min (length cs) (length rs)
  length-numbered = length-enumerate_from 0 (zip cs rs) ∙ length-zip cs rs

  -- item i of them
  numbered_at : (i : ℕ) (p : ℕ × (Call × Result Reply Fault)) → i < min (length cs) (length rs) → get_or (numbered cs rs) i p ≡ (i, (get_or cs i p.1.0, get_or rs i p.1.1))
  numbered_at i p here =
      let paired : i < length (zip cs rs) = omega (arith, length-zip cs rs) in
      get_or-enumerate_from 0 (zip cs rs) i p paired
      ∙ (λ k. (zero-add i k, get_or-zip cs rs i p.1 (omega arith) (omega arith) k))

module _ (cs : List Call) (rs : List (Result Reply Fault)) (i : ℕ) (before whole : List ℕ) (sofar : before ++ lines_from (i + 1) (drop i cs) (drop i rs) ≡ whole) where
  -- one line more
  pub lines_more : (p : ℕ × (Call × Result Reply Fault)) (after : List ℕ) → (i < length (numbered cs rs)) × (p ≡ get_or (numbered cs rs) i p) → after ≡ before ++ (line_text (p.0 + 1) p.1.0 p.1.1 ++ newline) →
      after ++ lines_from (i + 1 + 1) (drop (i + 1) cs) (drop (i + 1) rs) ≡ whole
  lines_more p after turn pushed =
      let here : i < min (length cs) (length rs) = omega (arith, turn.0, length-numbered cs rs) in
      let is = turn.1 ∙ numbered_at cs rs i p here in
      let next : drop i cs ≡ get_or cs i p.1.0 ∷ drop (i + 1) cs = rw add-one (drop-cons cs i p.1.0 (omega arith)) in
      let answer : drop i rs ≡ get_or rs i p.1.1 ∷ drop (i + 1) rs = rw add-one (drop-cons rs i p.1.1 (omega arith)) in
      let line = line_text (i + 1) (get_or cs i p.1.0) (get_or rs i p.1.1) in
      let rest = lines_from (i + 1 + 1) (drop (i + 1) cs) (drop (i + 1) rs) in
      let lines : lines_from (i + 1) (drop i cs) (drop i rs) ≡ line ++ (newline ++ rest) = rw (next, answer) refl in
      ap (λ x. x ++ rest) (pushed ∙ ap (λ q. before ++ (line_text (q.0 + 1) q.1.0 q.1.1 ++ newline)) is)
      ∙ append_assoc before (line ++ newline) rest ∙ ap (λ x. before ++ x) (append_assoc line newline rest ∙ sym lines) ∙ sofar

  lines_none : (length cs ≤ i) ⊎ (length rs ≤ i) → lines_from (i + 1) (drop i cs) (drop i rs) ≡ []
  lines_none (inl none) = rw (drop_all i cs none) refl
  lines_none (inr none) = rw (drop_all i rs none) (lines_unanswered (i + 1) (drop i cs))

  -- no line is left
  pub lines_done : i ≡ length (numbered cs rs) → before ≡ whole
  lines_done end = sym (append-nil before) ∙ ap (λ x. before ++ x) (sym (lines_none all)) ∙ sofar
    where
      all : (length cs ≤ i) ⊎ (length rs ≤ i)
      all = elim (cases_lt i (length cs)) [ inl more ↦ inr (omega (arith, length-numbered cs rs)) | inr none ↦ inl none ]
