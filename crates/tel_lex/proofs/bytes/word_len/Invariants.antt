use Rattle.std.proofs.Common.{◌≡◌, ◌+◌, drop}
use Rattle.std.specs.List.{prefix_len}
use Rattle.tel_lex.specs.Spelling.{is_word_byte}
use Rattle.tel_lex.proofs.bytes.word_len.Given as goal

abbrev pub invariant-loop-place : goal.invariant-loop-place
invariant-loop-place l = l.place + prefix_len is_word_byte (drop l.place l.bytes) ≡ prefix_len is_word_byte l.bytes
