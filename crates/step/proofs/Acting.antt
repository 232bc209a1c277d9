-- What an event does leaves the own count. Assumes nothing.
use Rattle.std.proofs.Common.{◌≡◌, ℕ, ◌<◌, ◌≤◌, true, List, length, drop, refl, ap, arith, ltb-true}
use borrow.Author.Tests.{eqb-true}
use Rattle.std.proofs.lemmas.List.{length-drop}
use Rattle.table.specs.Limits.{register_count}
use Rattle.table.specs.Tables.{Table}
use Rattle.step.specs.Records.{count_of, hand_length, records_length}
use Rattle.step.specs.Steps.{Act, set_register, send, receive, Fitting, acted_block, hand_fits, own_count, register_fits}
use Rattle.step.proofs.RecordLaws.{set_record, taken_own}

pub acted_own : (t : Table) (s : ℕ) (a : Act) (block : List ℕ) → Fitting t s block → hand_fits (hand_length t.switches (length t.nodes)) a ≡ true → register_fits a ≡ true
    → own_count (length t.nodes) s (acted_block t s a block) ≡ own_count (length t.nodes) s block
acted_own t s (set_register g w) block fits hand register =
    let some : g < register_count = ltb-true g register_count register in
    ap count_of (set_record t.switches (length t.nodes) block g w (omega (arith, fits.shape)) s fits.there)
acted_own t s send block fits hand register = refl
acted_own t s (receive h) block fits hand register =
    let n = t.switches in
    let m = length t.nodes in
    let long : length h ≡ hand_length n m = eqb-true (length h) (hand_length n m) hand in
    let full : records_length n m ≤ length (drop 1 h) = omega (arith, length-drop 1 h) in
    ap count_of (taken_own n m s (drop 1 h) full block (omega (arith, fits.shape)) n (omega arith))
