use Rattle.std.proofs.Common.{refl}
use Rattle.readings.specs.Ports.{collect, has}
use Rattle.carriers.specs.Meanings.{copy_under}
use Rattle.step.specs.Opening.{column, columns}
use Rattle.step.specs.Steps.{mask, new_words, taken}
use Rattle.history.specs.Calls.{first_blocks, ran}
use Rattle.history.specs.Runs.{answer_at, call_at, fleet_at}
use Rattle.history.proofs.theorems.worked_cases_stand.Goals as goal

-- by computation
pub returns : goal.returns
unfolding collect has column columns new_words taken mask first_blocks ran copy_under answer_at call_at fleet_at
returns c = record {
  readings = (refl, refl, refl);
  steps = (refl, refl, refl, refl);
  listing = record {
    seven = refl;
    eight = refl;
    nine = refl;
    line1 = refl;
    line2 = refl;
    line3 = refl;
    line4 = refl;
    line5 = refl;
    line6 = refl;
    line7 = refl;
    line8 = refl;
    line9 = refl;
    line10 = refl;
  };
}
