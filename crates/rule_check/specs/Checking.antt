-- How the first cause is found: what tables decide of each statement, and the first faulty constant.
use Rattle.std.specs.Prelude.{◌≡◌, ⊤, ℕ, ◌<◌, Bool, true, false, List, Some, None, slice_get}
use Rattle.tel_rule.specs.declared.statements.Signature.{Signature}
use Rattle.tel_rule.specs.declared.statements.Kind.{Kind}
use Rattle.tel_rule.specs.declared.statements.Kind.TheVariants as kinds
use Rattle.tel_rule.specs.declared.statements.Statement.{Statement}
use Rattle.tel_rule.specs.declared.statements.Program.{Program}
use Rattle.rule_binding.specs.Binding.{IsFirstUnbound}
use Rattle.rule_constants.specs.Replaced.{IsReplaced}
use Rattle.rule_check.specs.declared.faults.CheckFault.{CheckFault}
use Rattle.rule_check.specs.declared.faults.CheckFault.TheVariants as causes
use Rattle.rule_check.specs.Causes.{IsUnbound, has_bare_arrow, has_bad_prime, IsSound}

-- no variable is unbound, and no arrow and no prime is where it may not be
abbrev pub IsClear : (Signature → Bool) → Statement → Type 0
IsClear tables statement = IsFirstUnbound tables statement None × (has_bare_arrow statement.kind ≡ false) × (has_bad_prime statement.kind ≡ false)

-- the first of these three causes of a statement
abbrev pub IsUnclear : (Signature → Bool) → Statement → CheckFault → Type 0
IsUnclear tables statement (causes.Unbound place name) = (place ≡ statement.place) × IsUnbound tables statement name
IsUnclear tables statement (causes.Arrow place) = (place ≡ statement.place) × (has_bare_arrow statement.kind ≡ true) × IsFirstUnbound tables statement None
IsUnclear tables statement (causes.Prime place) = (place ≡ statement.place) × (has_bad_prime statement.kind ≡ true) × (has_bare_arrow statement.kind ≡ false) × IsFirstUnbound tables statement None
IsUnclear tables statement (causes.Const place name) = ⊥
IsUnclear tables statement causes.Memory = ⊥

-- the first statements, so many, are clear
abbrev pub AreClear : (Signature → Bool) → List Statement → ℕ → Type 0
AreClear tables statements count =
    (number : ℕ) (statement : Statement) → number < count → slice_get statements number ≡ Some statement → IsClear tables statement

-- the first cause of the first statements, so many
pub record IsFirstUnclear (tables : Signature → Bool) (statements : List Statement) (count : ℕ) (cause : CheckFault) : Type 0 where
  pub number : ℕ
  pub statement : Statement
  pub below : number < count
  pub at : slice_get statements number ≡ Some statement
  pub is : IsUnclear tables statement cause
  pub before : AreClear tables statements number

-- a statement defines this name
abbrev pub DefinesName : Kind → List ℕ → Type 0
DefinesName (kinds.Const name expr) other = other ≡ name
DefinesName (kinds.Rule head body) other = ⊥
DefinesName (kinds.Facts fact) other = ⊥
DefinesName (kinds.Show shown) other = ⊥

abbrev pub defines_a_name : Kind → Bool
defines_a_name (kinds.Const name expr) = true
defines_a_name (kinds.Rule head body) = false
defines_a_name (kinds.Facts fact) = false
defines_a_name (kinds.Show shown) = false

-- the fault of a constant of this statement
abbrev pub IsConstOf : Statement → CheckFault → Type 0
IsConstOf statement (causes.Const place name) = (place ≡ statement.place) × DefinesName statement.kind name
IsConstOf statement (causes.Unbound place name) = ⊥
IsConstOf statement (causes.Arrow place) = ⊥
IsConstOf statement (causes.Prime place) = ⊥
IsConstOf statement causes.Memory = ⊤

-- a program that was checked: a program without a cause, its constants replaced by their values
abbrev pub IsCheckedProgram : Program → Type 0
IsCheckedProgram program = (source : Program) × IsSound source × IsReplaced source program
