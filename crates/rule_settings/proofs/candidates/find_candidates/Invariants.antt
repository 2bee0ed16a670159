use Rattle.std.proofs.Common.{◌≡◌, ◌++◌, drop}
use Rattle.rule_settings.specs.Said.{all_said}
use Rattle.rule_settings.specs.Candidates.{body_candidates}
use Rattle.rule_settings.proofs.candidates.find_candidates.Given as goal

abbrev pub invariant-loop-literal : goal.invariant-loop-literal
invariant-loop-literal l = all_said l.found.items ++ body_candidates (drop l.literal-index l.body) ≡ body_candidates l.body
