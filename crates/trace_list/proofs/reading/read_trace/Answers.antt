use Rattle.std.proofs.Common.{List, ℕ, sym, subst}
use Rattle.std.specs.Prelude.{IsTrue}
use Rattle.std.specs.List.{list_all}
use Rattle.tel_rule.specs.Rising.{numbers_rise}
use Rattle.trace_list.proofs.Rising.{states_rise}
use Rattle.trace_list.proofs.reading.read_trace.Goals as goal

pub invariant_of-result : goal.invariant_of-result
invariant_of-result c = subst (λ (states : List (List ℕ)). IsTrue (list_all numbers_rise states)) (sym c.in_ok-states.ensures) (states_rise c.args.trail.now.entries c.args.space.now.counts c.args.n)
