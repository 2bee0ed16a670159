-- More live bindings than a limit.
use Rattle.std.specs.Prelude.{ℕ, ◌<◌, List, length}
use Rattle.tel_term.specs.declared.terms.Term.{Term}
use Rattle.tel_term.specs.declared.terms.Value.{Value}
use Rattle.tel_rule.specs.declared.statements.Head.{Head}
use Rattle.tel_rule.specs.declared.statements.Literal.{Literal}
use Rattle.tel_rule.specs.declared.statements.Statement.{Statement}
use Rattle.live_instances.specs.Instances.{AreLive}
use Rattle.live_bindings.specs.declared.fault.LiveFault.{LiveFault}
use Rattle.live_bindings.specs.declared.fault.LiveFault.TheVariants as faults

-- a rule of so many variables has more live bindings than this
abbrev pub AreMore : List Statement → List Term → ℕ → Head → List Literal → ℕ → Type 0
AreMore statements symbols vars head body most = (bindings : List (List Value)) → AreLive statements symbols vars head body bindings → most < length bindings

-- what holds where a fault says that there are too many
abbrev pub IfLarge : LiveFault → Type 0 → Type 0
IfLarge faults.Large P = P
IfLarge faults.Memory P = Unit {0}
