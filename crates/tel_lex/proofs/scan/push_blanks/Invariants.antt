use Rattle.std.proofs.Common.{◌≡◌, ◌+◌, ◌≤◌, ◌++◌, length}
use Rattle.tel_lex.specs.Tokens.{tokens_of}
use Rattle.tel_lex.specs.Reading.{blanks_from}
use Rattle.tel_lex.proofs.scan.push_blanks.Given as goal

abbrev pub invariant-blanks : goal.invariant-blanks
invariant-blanks l = record {
  pushed : tokens_of l.tokens.items ++ blanks_from l.place l.rest ≡ tokens_of l.fn.tokens.items ++ blanks_from l.fn.place l.blanks;
  bytes_left : l.place.at + length l.rest ≤ l.fn.place.at + length l.blanks;
}

abbrev pub decreases-blanks : goal.decreases-blanks
decreases-blanks l = length l.rest
