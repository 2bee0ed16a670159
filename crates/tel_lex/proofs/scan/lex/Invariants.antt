use Rattle.std.proofs.Common.{length}
use Rattle.tel_lex.specs.Places.{start_of}
use Rattle.tel_lex.specs.Tokens.{tokens_of}
use Rattle.tel_lex.specs.Reading.{Goes}
use Rattle.tel_lex.proofs.scan.lex.Given as goal

abbrev pub invariant-reading : goal.invariant-reading
invariant-reading l = Goes (start_of l.file) l.bytes (tokens_of l.tokens.items) l.place l.rest

abbrev pub decreases-reading : goal.decreases-reading
decreases-reading l = length l.rest
