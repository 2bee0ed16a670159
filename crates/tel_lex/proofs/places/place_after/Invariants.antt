use Rattle.std.proofs.Common.{◌≡◌, ◌+◌, ◌≤◌, length}
use Rattle.tel_lex.specs.Places.{place_after}
use Rattle.tel_lex.proofs.places.place_after.Given as goal

abbrev pub invariant-lines : goal.invariant-lines
invariant-lines l = record {
  same : place_after (record { file = l.place.file; line = l.line; at = l.at }) l.rest ≡ place_after l.place l.bytes;
  bytes_left : l.at + length l.rest ≤ l.place.at + length l.bytes;
  lines_left : l.line + length l.rest ≤ l.place.line + length l.bytes;
}

abbrev pub decreases-lines : goal.decreases-lines
decreases-lines l = length l.rest
