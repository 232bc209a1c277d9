use Rattle.std.proofs.Common.{◌≡◌, ◌+◌, ◌++◌, length, drop, string_bytes}
use Rattle.listing.specs.Texts.{lines_from, listing_text}
use Rattle.listing.proofs.text.listing.Given as goal

abbrev pub invariant-loop-i : goal.invariant-loop-i
invariant-loop-i l =
    let i = length l.yielded in
    string_bytes l.text ++ lines_from (i + 1) (drop i l.calls) (drop i l.replies) ≡ listing_text l.calls l.replies
