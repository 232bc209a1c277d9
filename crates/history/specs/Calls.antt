-- The calls of a live fleet, by what they answer and what they leave. Assumes nothing.
use Rattle.std.specs.Prelude.{ℕ, zero, suc, ◌+◌, ◌*◌, cond, List, [], ◌∷◌, ◌++◌, length, take, drop, Some, None, Option, Result, ◌==◌, nat_lt}
use Rattle.std.proofs.Math.Seq.{paste}
use Rattle.table.specs.Limits.{register_count}
use Rattle.table.specs.Tables.{Table}
use Rattle.table.specs.declared.fault.Fault.{Fault}
use Rattle.table.specs.declared.fault.Reason.{Reason}
use Rattle.table.specs.declared.fault.Reason.TheVariants as why
use Rattle.step.specs.Nodes.{WordKind}
use Rattle.step.specs.Opening.{opened}
use Rattle.step.specs.Records.{block_length, records_length}
use Rattle.step.specs.Steps.{Act, set_register, send, receive, acted_block, advanced, answer_of, max_count, own_count, own_mask}
use Rattle.carriers.specs.Meanings.{Meaning, copy_under, no_space, with_copy, without_copy}

pub data Call : Type 0 where
  -- switch, register, word
  set_call : ℕ → ℕ → ℕ → Call
  -- switch
  send_call : ℕ → Call
  -- switch, number of the copy
  receive_call : ℕ → ℕ → Call
  -- number of the copy
  retire_call : ℕ → Call

-- what a live fleet works on; the memory is one block for each switch, in order
pub record Fleet : Type 0 where
  pub memory : List ℕ
  pub hand : List ℕ
  pub carrier : Meaning

-- what an accepted call answers: of an event the count and the broken mask, and of a send the copy's number
pub record Reply : Type 0 where
  pub count : ℕ
  pub broken : ℕ
  pub number : Option ℕ

module _ (k : WordKind) (t : Table) where
  abbrev pub block_size : ℕ
  block_size = block_length t.switches (length t.nodes)

  -- block s of the memory
  abbrev pub block_at : List ℕ → ℕ → List ℕ
  block_at memory s = take block_size (drop (s * block_size) memory)

  abbrev pub put_block : List ℕ → ℕ → List ℕ → List ℕ
  put_block memory s block = paste memory (s * block_size) block block_size

  -- the blocks of the first s switches as they start
  unfoldable pub first_blocks : ℕ → List ℕ
  first_blocks zero = []
  first_blocks (suc s) = first_blocks s ++ opened k t s

  -- the memory of a new fleet
  abbrev pub first_memory : List ℕ
  first_memory = first_blocks t.switches

  -- a copy of what s knows, from its block
  abbrev pub copy_of : ℕ → List ℕ → List ℕ
  copy_of s block = s ∷ take (records_length t.switches (length t.nodes)) block

  -- why s can make no event: there is no such switch, or its count cannot grow
  abbrev pub event_refusal : Fleet → ℕ → Option Reason → Option Reason
  event_refusal f s more =
      cond (nat_lt s t.switches)
      (cond (own_count (length t.nodes) s (block_at f.memory s) == max_count) (Some why.Count) more)
      (Some why.Switch)

  abbrev pub held_or : Option (List ℕ) → Option Reason
  held_or None = Some why.NotHeld
  held_or (Some copy) = None

  -- why a call is refused: the switch, the register, the count, and then the carrier's space or the copy
  abbrev pub call_refusal : Fleet → Call → Option Reason
  call_refusal f (set_call s g w) =
      cond (nat_lt s t.switches)
      (cond (nat_lt g register_count) (event_refusal f s None) (Some why.Operand))
      (Some why.Switch)
  call_refusal f (send_call s) = event_refusal f s (cond (no_space f.carrier) (Some why.Full) None)
  call_refusal f (receive_call s x) = event_refusal f s (held_or (copy_under x f.carrier.held))
  call_refusal f (retire_call x) = held_or (copy_under x f.carrier.held)

  -- the step of s in its block
  abbrev pub stepped : Fleet → ℕ → Act → List ℕ
  stepped f s a = advanced k t s (acted_block t s a (block_at f.memory s))

  abbrev pub or_hand : Option (List ℕ) → List ℕ → List ℕ
  or_hand None hand = hand
  or_hand (Some copy) hand = copy

  -- the fleet after an accepted call
  abbrev pub after_call : Fleet → Call → Fleet
  after_call f (set_call s g w) = record {
    memory = put_block f.memory s (stepped f s (set_register g w));
    hand = f.hand;
    carrier = f.carrier;
  }
  after_call f (send_call s) = record {
    memory = put_block f.memory s (stepped f s send);
    hand = copy_of s (stepped f s send);
    carrier = with_copy f.carrier (copy_of s (stepped f s send));
  }
  after_call f (receive_call s x) = record {
    memory = put_block f.memory s (stepped f s (receive (or_hand (copy_under x f.carrier.held) f.hand)));
    hand = or_hand (copy_under x f.carrier.held) f.hand;
    carrier = f.carrier;
  }
  after_call f (retire_call x) = record {
    memory = f.memory;
    hand = f.hand;
    carrier = without_copy f.carrier x;
  }

  abbrev pub event_reply : Fleet → ℕ → Act → Option ℕ → Reply
  event_reply f s a x = record {
    count = own_count (length t.nodes) s (acted_block t s a (block_at f.memory s)) + 1;
    broken = own_mask k t s (acted_block t s a (block_at f.memory s));
    number = x;
  }

  -- what an accepted call answers
  abbrev pub reply : Fleet → Call → Reply
  reply f (set_call s g w) = event_reply f s (set_register g w) None
  reply f (send_call s) = event_reply f s send (Some f.carrier.next)
  reply f (receive_call s x) = event_reply f s (receive (or_hand (copy_under x f.carrier.held) f.hand)) None
  reply f (retire_call x) = record { count = 0; broken = 0; number = None }

  -- what a call answers, and the fleet after it; a refused call leaves everything
  abbrev pub answer : Fleet → Call → Result Reply Fault
  answer f c = answer_of (call_refusal f c) (reply f c)

  abbrev pub fleet_of : Option Reason → Fleet → Fleet → Fleet
  fleet_of None before after = after
  fleet_of (Some why) before after = before

  abbrev pub called : Fleet → Call → Fleet
  called f c = fleet_of (call_refusal f c) f (after_call f c)

  -- the fleet after a list of calls
  unfoldable pub ran : Fleet → List Call → Fleet
  ran f [] = f
  ran f (c ∷ cs) = ran (called f c) cs
