-- A search by a plan, and what it says of the faults of a rule.
use Rattle.std.specs.Prelude.{◌≡◌, ◌↔◌, ◌⊎◌, ℕ, ◌<◌, List, length, Some, None, pos, IsFalse}
use Rattle.tel_base.specs.Members.{In}
use Rattle.tel_term.specs.declared.terms.Term.{Term}
use Rattle.tel_term.specs.declared.terms.Value.{Value}
use Rattle.tel_term.specs.declared.terms.Value.TheVariants as values
use Rattle.tel_term.specs.declared.exprs.Expr.{Expr}
use Rattle.tel_rule.specs.declared.statements.Head.{Head}
use Rattle.tel_rule.specs.declared.statements.Literal.{Literal}
use Rattle.tel_rule.specs.declared.statements.Kind.TheVariants as kinds
use Rattle.tel_rule.specs.declared.statements.Statement.{Statement}
use Rattle.tel_semantics.specs.Tables.{is_table}
use Rattle.rule_binding.specs.Binding.{has, row_vars, Setting, SettingsOf, IsFirstUnbound}
use Rattle.live_instances.specs.Instances.{rule_exprs}
use Rattle.live_instances.specs.Reached.{set_by, LeavesRange}
use Rattle.join_plans.specs.Join.{at}
use Rattle.join_plans.specs.Goals.{Goal, IsRow, HasValue, Compares, AreMet}
use Rattle.rule_plans.specs.Goals.{Rows, place_count, row_goals}
use Rattle.rule_plans.specs.Within.{AreWithin, AreRowsOf}
use Rattle.plan_search.specs.Steps.{AreTerms}
use Rattle.range_faults.specs.Stops.{Stop, stop, AllAgree}

-- the goal is no comparison, asks for places and reads places that aren't set, and its value rests on what it reads
abbrev pub IsSteady : List ℕ → Goal → Type 0
IsSteady set (IsRow places rows) = (v : ℕ) → In v places → IsFalse (has set v)
IsSteady set (HasValue place e) =
    IsFalse (has set place) × ((v : ℕ) → In v e.reads → IsFalse (has set v)) × ((a b : List Value) → ((v : ℕ) → In v e.reads → at a v ≡ at b v) → e.value a ≡ e.value b)
IsSteady set (Compares c) = ⊥

-- early goals, which are met before any variable is set, and late ones
pub record AreParted (set : List ℕ) (all early late : List Goal) : Type 0 where
  pub steady : (goal : Goal) → In goal early → IsSteady set goal
  pub both : (goal : Goal) → In goal all ↔ (In goal early ⊎ In goal late)

-- values at so many places, as the search begins with them: early goals are met, and variables that no row binds have the number 0
pub record AreBegun (count places : ℕ) (bound : List ℕ) (early : List Goal) (w : List Value) : Type 0 where
  pub long : length w ≡ places
  pub met : AreMet w early
  pub zeros : (v : ℕ) → v < count → IsFalse (has bound v) → at w v ≡ values.Num (pos 0)

-- the setting equations stop from these values on, and the late goals agree there
pub record AreLeaving (exprs : List Expr) (settings : List Setting) (late : List Goal) (w : List Value) : Type 0 where
  pub found : Stop
  pub stops : stop exprs w settings ≡ Some found
  pub agree : AllAgree found.unset found.env late

-- values that the search finds
pub record IsFinding (statements : List Statement) (rows : Rows) (rule : Statement) (head : Head) (body : List Literal) (settings : List Setting) (early late : List Goal) (w : List Value) : Type 0 where
  pub begun : AreBegun (length rule.vars) (place_count statements rows (length rule.vars) body) (row_vars (is_table statements) body) early w
  pub leaving : AreLeaving (rule_exprs head body) settings late w

-- a rule leaves the range exactly where the search finds such values of terms of the program
abbrev pub RangesAreFound : Type 0
RangesAreFound =
    (statements : List Statement) (symbols : List Term) (rows : Rows) (rule : Statement) (head : Head) (body : List Literal) (settings : List Setting) (early late : List Goal)
    → rule.kind ≡ kinds.Rule head body → SettingsOf (is_table statements) rule settings → IsFirstUnbound (is_table statements) rule None
    → AreRowsOf statements symbols rows → AreWithin symbols (length rule.vars) (rule_exprs head body) → AreParted (set_by settings) (row_goals statements rows (length rule.vars) body) early late
    → (LeavesRange statements symbols rule → (w : List Value) × IsFinding statements rows rule head body settings early late w)
    × ((w : List Value) → AreTerms symbols w → IsFinding statements rows rule head body settings early late w → LeavesRange statements symbols rule)
