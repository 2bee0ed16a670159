use Rattle.std.proofs.Common.{◌≡◌, ◌+◌, ◌≤◌, length, drop}
use Rattle.part_syntax.specs.Programs.{total_bytes}
use Rattle.part_syntax.proofs.Ranks.{SoRead}
use Rattle.part_syntax.proofs.files.read_texts.Given as goal

abbrev pub invariant-loop-bytes : goal.invariant-loop-bytes
invariant-loop-bytes l = record {
  so : SoRead l.levels l.texts l.file (drop l.bytes-index l.texts) l.before.symbols l.before.statements;
  file : l.file ≡ l.bytes-index + 1;
  symbols : length l.before.symbols + total_bytes (drop l.bytes-index l.texts) ≤ total_bytes l.texts;
  statements : length l.before.statements + total_bytes (drop l.bytes-index l.texts) ≤ total_bytes l.texts;
}
