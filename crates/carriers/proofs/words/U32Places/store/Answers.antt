use Rattle.std.proofs.Common.{◌≡◌, ℕ, ◌<◌, List, [], ◌∷◌, length, get_or, set, refl, arith, rules}
use borrow.Rule.Slice.PartMut.{put_mid}
use Rattle.carriers.proofs.words.U32Places.store.Goals as goal

first_kept : (d ys : List ℕ) (f k : ℕ) → 0 < length d → get_or (put_mid 1 k (set d 0 f) ys) 0 0 ≡ f
first_kept [] ys f k some = absurd (omega arith)
first_kept (x ∷ d) ys f k some = refl

pub returns-clause-flag : goal.returns-clause-flag
returns-clause-flag c = first_kept c.args.place.now _ c.args.new_flag _ (search rules)
