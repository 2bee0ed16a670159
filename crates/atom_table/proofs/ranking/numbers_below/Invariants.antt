use Rattle.atom_table.specs.Ranks.{AreBelow}
use Rattle.atom_table.proofs.ranking.numbers_below.Given as goal

abbrev pub invariant-loop-number : goal.invariant-loop-number
invariant-loop-number l = AreBelow l.number l.numbers.items
