use Rattle.std.proofs.Common.{◌≡◌, ℕ, ◌<◌, ◌≤◌, List, take, vec_len}
use Rattle.part_syntax.specs.Programs.{total_bytes}
use Rattle.text_answer.specs.Verdict.{largest_text}
use Rattle.telingo_cli.specs.Texts.{AreTold}
use Rattle.telingo_cli.proofs.files.read_files.Given as goal

abbrev pub invariant-loop-word : goal.invariant-loop-word
invariant-loop-word g l = record {
  told : AreTold (g.S.Source.text l.initial.texts) (take l.word-index l.words) l.read.items;
  total : l.total ≡ total_bytes l.read.items;
  small : l.total ≤ largest_text;
  stands : g.S.Source.faults l.texts ≡ g.S.Source.faults l.initial.texts;
  texts : (word : List ℕ) → g.S.Source.text l.texts word ≡ g.S.Source.text l.initial.texts word;
  room : 0 < vec_len l.piece;
}
