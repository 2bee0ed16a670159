use Rattle.std.proofs.Common.{◌≡◌, drop}
use Rattle.std.specs.Cmp.Lexicographic.{slice_cmp}
use Rattle.atom_table.specs.Keys.{rank_cmp}
use Rattle.atom_table.proofs.comparing.compare_rows.Given as goal

abbrev pub invariant-loop-at : goal.invariant-loop-at
invariant-loop-at l = slice_cmp (rank_cmp l.ranks) (drop l.at l.a) (drop l.at l.b) ≡ slice_cmp (rank_cmp l.ranks) l.a l.b
