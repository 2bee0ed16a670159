use Rattle.std.proofs.Common.{◌≡◌, ℕ, ◌+◌, ◌-◌, ◌<◌, List, length, vec_len}
use Rattle.telingo_cli.specs.Reading.{IsFrontOf}
use Rattle.telingo_cli.proofs.reading.read_text.Given as goal

abbrev pub invariant-reading : goal.invariant-reading
invariant-reading g l = record {
  front : IsFrontOf (g.S.Source.text l.initial.texts l.name) l.bytes.items;
  stands : g.S.Source.faults l.texts ≡ g.S.Source.faults l.initial.texts;
  texts : (word : List ℕ) → g.S.Source.text l.texts word ≡ g.S.Source.text l.initial.texts word;
  room : 0 < length l.piece;
}

abbrev pub decreases-reading : goal.decreases-reading
decreases-reading g l = l.most + 1 - vec_len l.bytes
