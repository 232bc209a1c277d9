-- The law of a list of calls on a new fleet, for every allowed order. Assumes nothing.
use Rattle.std.proofs.Common.{◌≡◌, ℕ, ◌<◌, true, List, length, Result, sym, ap, ◌∙◌}
use Rattle.std.specs.List.{AllByRecursion}
use Rattle.table.specs.Tables.{Table, sound}
use Rattle.table.specs.declared.fault.Fault.{Fault}
use Rattle.readings.specs.Kinds.{Kind, Lawful}
use Rattle.step.specs.Nodes.{on_words}
use Rattle.history.specs.Calls.{Call, Fleet, Reply, ran}
use Rattle.history.specs.Law.{Law, PassedThrough}
use Rattle.history.specs.Orders.{New}
use Rattle.history.specs.AnsweredLaw.{AnsweredLaw}
use Rattle.history.specs.Runs.{WordCall, answer_at, event}
use Rattle.history.proofs.Cuts.{front, front_all, front_exactly, order, order_allowed, order_split, rest}
use Rattle.history.proofs.EveryOrder.{all_calls, every_answer, every_memory, every_number, passed}
use Rattle.history.proofs.Histories.{history}
use Rattle.history.proofs.Moments.{event_below, some_switch}
use Rattle.history.proofs.Verdicts.{counts, knows_is, numbers, verdict}

module _ {R : Type 0} (k : Kind R) (held : R → Type 0) (law : Lawful k held) (t : Table) (is_sound : sound t ≡ true) (f : Fleet) (new : New (on_words k) t f) (calls : List Call) (words : AllByRecursion WordCall calls)
    (said : ℕ → Result Reply Fault) (said_is : (i : ℕ) → i < length calls → said i ≡ answer_at (on_words k) t f calls i) (left : List ℕ) (left_is : left ≡ (ran (on_words k) t f calls).memory) where
  passed_through : (e : ℕ) → event (on_words k) t f calls e ≡ true → PassedThrough k t f calls e
  passed_through e is =
      let at = some_switch (on_words k) t f calls e is in
      record {
        some = (
          order (on_words k) t f calls is_sound new e at.0 at.1,
          front (on_words k) t f calls is_sound new e at.0 at.1,
          rest (on_words k) t f calls is_sound new e at.0 at.1,
          record {
            allowed = order_allowed (on_words k) t f calls is_sound new e at.0 at.1;
            split = order_split (on_words k) t f calls is_sound new e at.0 at.1;
            exactly = front_exactly (on_words k) t f calls is_sound new e at.0 at.1;
            all = front_all (on_words k) t f calls is_sound new e at.0 at.1;
          },
        );
        every = λ order front rest begins g fits s n nth j below.
            passed (on_words k) t f calls is_sound new order begins.allowed g fits.0 fits.1 e front rest begins.split begins.exactly begins.all s j nth.is below
            ∙ sym (knows_is k held law t is_sound f new calls words e s j);
      }

  -- the law itself, of the answers and the memory that the definitions give
  the_law : Law k t f calls
  the_law = record {
    values = history k held law t is_sound f new calls words;
    verdict = λ e is. verdict k held law t is_sound f new calls words e;
    counts = counts k held law t is_sound f new calls words;
    passed = passed_through;
    same = record {
      answers = λ order allowed g fits p d less. every_answer (on_words k) t f calls is_sound new order allowed g fits.0 fits.1 p d less;
      memory = λ order allowed g fits. every_memory (on_words k) t f calls is_sound new order allowed g fits.0 fits.1;
    };
  }

  pub law_holds : AnsweredLaw k t f calls said left
  law_holds = record {
    law = the_law;
    told = λ i below. sym (said_is i below);
    ended = ap (λ z. z.memory) (all_calls (on_words k) t f calls) ∙ sym left_is;
    numbers = λ e is. numbers k held law t is_sound f new calls words said left e (said_is e (event_below (on_words k) t f calls e is));
    copies = λ order allowed g fits p d less s x call says. every_number (on_words k) t f calls is_sound new order allowed g fits.0 fits.1 said said_is p d less s x call says;
  }
