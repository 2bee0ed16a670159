use Rattle.std.proofs.Common.{◌≡◌, ◌+◌, drop}
use Rattle.std.specs.List.{prefix_len}
use Rattle.tel_lex.specs.Reading.{is_low_line}
use Rattle.tel_lex.proofs.bytes.low_lines_len.Given as goal

abbrev pub invariant-loop-place : goal.invariant-loop-place
invariant-loop-place l = l.place + prefix_len is_low_line (drop l.place l.bytes) ≡ prefix_len is_low_line l.bytes
