use Rattle.std.proofs.Common.{◌++◌, [], ℕ, List}
use Rattle.rule_binding.specs.Binding.{Setting, equations_of, AreSettings}
use Rattle.rule_binding.specs.Closure.{marked}
use Rattle.rule_settings.specs.Said.{all_said}
use Rattle.rule_settings.specs.Candidates.{AreMarked}
use Rattle.rule_settings.specs.Waiting.{StateIs, open_count}
use Rattle.rule_settings.proofs.finding.find_settings.Given as goal

abbrev pub invariant-setting : goal.invariant-setting
invariant-setting l = record {
  state : StateIs (all_said l.candidates.items) l.state [];
  so_far : (rest : List Setting) → ((vars : List ℕ) → AreMarked l.state.bound.items vars → AreSettings (equations_of l.fn.body) vars rest) → (vars : List ℕ) → AreMarked l.fn.bound vars → AreSettings (equations_of l.fn.body) vars (all_said l.settings.items ++ rest);
}

abbrev pub decreases-setting : goal.decreases-setting
decreases-setting l = open_count (marked l.state.bound.items) (all_said l.candidates.items)
