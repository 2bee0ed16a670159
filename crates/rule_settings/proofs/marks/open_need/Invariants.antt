use Rattle.std.proofs.Common.{◌≡◌, length}
use Rattle.std.specs.List.{list_all}
use Rattle.rule_binding.specs.Binding.{Vars}
use Rattle.rule_binding.specs.Waiting.{Holds}
use Rattle.rule_settings.proofs.marks.open_need.Given as goal

abbrev pub invariant-needs : goal.invariant-needs
invariant-needs l = (X : Vars) → Holds X l.marks → list_all X l.initial.needs ≡ list_all X l.needs

abbrev pub decreases-needs : goal.decreases-needs
decreases-needs l = length l.needs
