use Rattle.std.proofs.Common.{◌≡◌, Ok, refl, rules}
use Rattle.table.specs.Wire.{field}
use Rattle.table.specs.declared.fault.Reason.TheVariants.{Events}
use Rattle.listing.specs.Events.{call_at, receive_at, retire_at, send_at, set_at}
use Rattle.listing.proofs.EventSteps.{call_done}
use Rattle.listing.proofs.events.read_call.Goals as goal

pub returns-in_err-field : goal.returns-in_err-field
unfolding call_at
returns-in_err-field c = search rules

pub returns-in-1 : goal.returns-in-1
returns-in-1 c =
    let reads : field Events c.args.reader.now.bytes.now c.args.reader.now.at ≡ Ok 1 = search rules in
    record {
      value = call_done _ _ _ _ 1 _ set_at reads c.in_ok-field.ensures.bytes c.in_ok-field.ensures.at c.read_set.ensures.value refl;
      reader = search rules;
    }

pub returns-in-2 : goal.returns-in-2
returns-in-2 c =
    let reads : field Events c.args.reader.now.bytes.now c.args.reader.now.at ≡ Ok 2 = search rules in
    record {
      value = call_done _ _ _ _ 2 _ send_at reads c.in_ok-field.ensures.bytes c.in_ok-field.ensures.at c.read_send.ensures.value refl;
      reader = search rules;
    }

pub returns-in-3 : goal.returns-in-3
returns-in-3 c =
    let reads : field Events c.args.reader.now.bytes.now c.args.reader.now.at ≡ Ok 3 = search rules in
    record {
      value = call_done _ _ _ _ 3 _ receive_at reads c.in_ok-field.ensures.bytes c.in_ok-field.ensures.at c.read_receive.ensures.value refl;
      reader = search rules;
    }

pub returns-in-4 : goal.returns-in-4
returns-in-4 c =
    let reads : field Events c.args.reader.now.bytes.now c.args.reader.now.at ≡ Ok 4 = search rules in
    record {
      value = call_done _ _ _ _ 4 _ retire_at reads c.in_ok-field.ensures.bytes c.in_ok-field.ensures.at c.read_retire.ensures.value refl;
      reader = search rules;
    }

pub returns-in_default : goal.returns-in_default
unfolding call_at
returns-in_default c = search rules
