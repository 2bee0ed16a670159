use Rattle.std.proofs.Common.{◌≡◌, ◌++◌, ◌-◌, map}
use Rattle.std.specs.List.{range_with_len}
use Rattle.trace_list.specs.Reading.{state_of, trace_of}
use Rattle.trace_list.proofs.reading.read_states.Given as goal

abbrev pub invariant-loop-t : goal.invariant-loop-t
invariant-loop-t l = l.states ++ map (state_of l.trail.entries l.space.counts) (range_with_len l.t (l.n - l.t)) ≡ trace_of l.trail.entries l.space.counts l.n
