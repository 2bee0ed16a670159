use Rattle.std.proofs.Common.{◌≡◌, ◌-◌, ◌≤◌, length, drop}
use Rattle.tel_lex.specs.Reading.{behind, string_len}
use Rattle.tel_lex.proofs.front.string_len.Given as goal

abbrev pub invariant-reading : goal.invariant-reading
invariant-reading l = record {
  within : l.at ≤ length l.bytes;
  len : string_len l.bytes ≡ behind l.at (string_len (drop l.at l.bytes));
}

abbrev pub decreases-reading : goal.decreases-reading
decreases-reading l = length l.bytes - l.at
