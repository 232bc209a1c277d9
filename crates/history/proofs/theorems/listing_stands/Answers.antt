use Rattle.std.proofs.Common.{refl}
use Rattle.carriers.specs.Meanings.{copy_under}
use Rattle.step.specs.Opening.{column, columns}
use Rattle.step.specs.Steps.{mask, new_words, taken}
use Rattle.history.specs.Calls.{first_blocks, ran}
use Rattle.history.specs.Runs.{answer_at, call_at, fleet_at}
use Rattle.history.proofs.theorems.listing_stands.Goals as goal

-- by computation
pub returns : goal.returns
unfolding column columns new_words taken mask first_blocks ran copy_under answer_at call_at fleet_at
returns c = record {
  seven = refl;
  eight = refl;
  nine = refl;
  line1 = refl;
  line2 = refl;
  line3 = refl;
  line4 = refl;
  line5 = refl;
  line6 = refl;
  line7 = refl;
  line8 = refl;
  line9 = refl;
  line10 = refl;
}
