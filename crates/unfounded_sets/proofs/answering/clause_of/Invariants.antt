use Rattle.std.proofs.Common.{◌≡◌, ◌-◌, ◌++◌, length, map}
use Rattle.std.specs.List.{filter, range_with_len}
use Rattle.unfounded_sets.specs.Least.{at}
use Rattle.unfounded_sets.specs.Marks.{false_of}
use Rattle.unfounded_sets.proofs.answering.clause_of.Given as goal

abbrev pub invariant-loop-place : goal.invariant-loop-place
invariant-loop-place l = (l.lits.items ++ map (false_of l.trail.entries) (filter (at l.marks) (range_with_len l.place (length l.marks - l.place)))) ≡ map (false_of l.trail.entries) (filter (at l.marks) (range_with_len 0 (length l.marks)))
