-- Laws of causes.
use Rattle.std.specs.Prelude.{◌≡◌, ◌⊎◌}
use Rattle.tel_rule.specs.declared.statements.Program.{Program}
use Rattle.rule_check.specs.declared.faults.CheckFault.{CheckFault}
use Rattle.rule_constants.specs.Replaced.{IsReplaced}
use Rattle.rule_check.specs.Causes.{IsSound, IsFirstCause}

-- a program has one first cause at the most, and none where it is sound
abbrev pub FirstCauseIsOne : Type 0
FirstCauseIsOne = (program : Program) (a b : CheckFault) → IsFirstCause program a → IsFirstCause program b → a ≡ b

abbrev pub SoundHasNoCause : Type 0
SoundHasNoCause = (program : Program) (cause : CheckFault) → IsSound program → IsFirstCause program cause → ⊥

-- a program passes, and has one that it is with its constants replaced, or it has a first cause
abbrev pub SomeOutcome : Type 0
SomeOutcome =
    (program : Program) → (IsSound program × ((replaced : Program) × IsReplaced program replaced)) ⊎ ((cause : CheckFault) × IsFirstCause program cause)
