use Rattle.std.proofs.Common.{◌≡◌, length}
use Rattle.atom_table.specs.Sorted.{Grows}
use Rattle.atom_table.proofs.Symbolized.{AreNamesUpTo}
use Rattle.atom_table.proofs.symbolizing.name_symbols.Given as goal

abbrev pub invariant-loop-name : goal.invariant-loop-name
invariant-loop-name l = Grows l.initial.symbols l.symbols × AreNamesUpTo l.symbols l.names l.numbers.items l.name-index × (length l.numbers.items ≡ l.name-index)
