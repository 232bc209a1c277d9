use Rattle.std.proofs.Common.{◌≡◌, ◌+◌, [], length, Ok, Err, vec_items, sym, ap, ◌∙◌, subst, rules}
use Rattle.std.proofs.lemmas.Result.{err_from_is_err_and}
use Rattle.table.proofs.Filling.{slice_bytes}
use Rattle.table.specs.Wire.{fault}
use Rattle.table.specs.declared.fault.Reason.TheVariants.{Events}
use Rattle.listing.specs.Events.{calls_end, calls_from, count_at}
use Rattle.listing.specs.Stops.{Says}
use Rattle.listing.proofs.EventCodec.{event_laws}
use Rattle.listing.proofs.EventSteps.{events_unreached, events_uncounted, events_unread, events_left, events_done}
use Rattle.listing.proofs.events.read_events.Goals as goal

pub returns-in_err-move_to : goal.returns-in_err-move_to
returns-in_err-move_to c =
    let p = err_from_is_err_and c.from_residual.result c.from_residual.ensures.1 in
    rw (p.1, p.2) (record { value = events_unreached _ c.args.at _ (cc c.in_err-move_to.ensures.value); laws = event_laws _ _ (slice_bytes _ c.type_inv.bytes) })

pub returns-in_err-count : goal.returns-in_err-count
returns-in_err-count c =
    let p = err_from_is_err_and c.from_residual-in_err-count.result c.from_residual-in_err-count.ensures.1 in
    let counts : count_at c.args.bytes.now c.args.at ≡ Err c.in_err-count.field-0.0 = search rules in
    rw (p.1, p.2) (record { value = events_uncounted _ _ _ counts; laws = event_laws _ _ (slice_bytes _ c.type_inv.bytes) })

pub returns-in_err-calls : goal.returns-in_err-calls
returns-in_err-calls c =
    let p = err_from_is_err_and c.from_residual-in_err-calls.result c.from_residual-in_err-calls.ensures.1 in
    let counts : count_at c.args.bytes.now c.args.at ≡ Ok c.in_ok-count.count = search rules in
    let there : calls_from c.read_count.new.reader.bytes.now c.read_count.new.reader.at c.in_ok-count.count [] ≡ calls_from c.args.bytes.now (c.args.at + 4) c.in_ok-count.count [] = search rules in
    rw (p.1, p.2) (record { value = events_unread _ _ _ counts _ (subst (Says c.in_err-calls.field-0.0) there c.in_err-calls.ensures.value); laws = event_laws _ _ (slice_bytes _ c.type_inv.bytes) })

pub returns-then-end-bytes : goal.returns-then-end-bytes
returns-then-end-bytes c =
    let counts : count_at c.args.bytes.now c.args.at ≡ Ok c.in_ok-count.count = search rules in
    let reads : calls_from c.args.bytes.now (c.args.at + 4) c.in_ok-count.count [] ≡ Ok (vec_items c.in_ok-calls.calls) = search rules in
    let ends : c.offset-end.result ≡ calls_end c.args.at c.in_ok-count.count = search rules in
    let left : calls_end c.args.at c.in_ok-count.count ≡ length c.args.bytes.now → ⊥ = λ e. c.if-end-bytes.true (ends ∙ e) in
    record { value = events_left _ _ _ counts _ reads left ∙ ap Err (ap (fault Events) (sym ends) ∙ sym c.at.ensures); laws = event_laws _ _ (slice_bytes _ c.type_inv.bytes) }

pub returns : goal.returns
returns c =
    let counts : count_at c.args.bytes.now c.args.at ≡ Ok c.in_ok-count.count = search rules in
    let reads : calls_from c.args.bytes.now (c.args.at + 4) c.in_ok-count.count [] ≡ Ok (vec_items c.in_ok-calls.calls) = search rules in
    let ends : c.offset-end.result ≡ calls_end c.args.at c.in_ok-count.count = search rules in
    record { value = events_done _ _ _ counts _ reads (sym ends ∙ c.if-end-bytes.false); laws = event_laws _ _ (slice_bytes _ c.type_inv.bytes) }
