-- Which bindings are reached, and which fault they meet first.
use Rattle.std.specs.Prelude.{◌≡◌, ◌⊎◌, ℕ, Bool, true, false, ◌&&◌, ◌||◌, List, [], ◌∷◌, map, length, Ok, Err, Option, Some, None, IsTrue}
use Rattle.std.specs.List.{list_all, list_any, flat_map}
use Rattle.tel_base.specs.Members.{In}
use Rattle.tel_term.specs.declared.terms.Term.{Term}
use Rattle.tel_term.specs.declared.terms.Value.{Value}
use Rattle.tel_term.specs.declared.terms.Value.TheVariants as values
use Rattle.tel_term.specs.declared.arithmetic.EvalFault.{EvalFault}
use Rattle.tel_term.specs.declared.arithmetic.EvalFault.TheVariants.{Undefined, Range}
use Rattle.tel_term.specs.declared.exprs.Expr.{Expr}
use Rattle.tel_term.specs.Arithmetic.{Valued, variable_value, expr_value}
use Rattle.tel_rule.specs.Atoms.{value_eq}
use Rattle.tel_rule.specs.declared.formulas.Atom.{Atom}
use Rattle.tel_rule.specs.declared.statements.Head.{Head}
use Rattle.tel_rule.specs.declared.statements.Literal.{Literal}
use Rattle.tel_rule.specs.declared.statements.Arg.{Arg}
use Rattle.tel_rule.specs.declared.statements.Arg.TheVariants as args
use Rattle.tel_rule.specs.declared.statements.Kind.{Kind}
use Rattle.tel_rule.specs.declared.statements.Kind.TheVariants as kinds
use Rattle.tel_rule.specs.declared.statements.Statement.{Statement}
use Rattle.tel_semantics.specs.Tables.{predicate_of, is_table, stated_rows}
use Rattle.rule_binding.specs.Binding.{Setting, SettingsOf, vars_of, has}
use Rattle.live_instances.specs.Bindings.{is_binding}
use Rattle.live_instances.specs.Instances.{table_atoms, rule_exprs}

-- ---- rows, while some variables aren't set

abbrev pub is_same : Valued → Value → Bool
is_same (Ok value) other = value_eq value other
is_same (Err fault) other = false

-- an argument with a variable that isn't set isn't compared; any other is to have the value of the row
abbrev pub arg_agrees : List ℕ → List Value → Expr → Value → Bool
arg_agrees unset binding expr value = list_any (has unset) (vars_of expr) || is_same (expr_value binding expr) value

abbrev pub args_agree : List ℕ → List Value → List Expr → List Value → Bool
args_agree unset binding [] [] = true
args_agree unset binding (expr ∷ exprs) (value ∷ row) = arg_agrees unset binding expr value && args_agree unset binding exprs row
args_agree unset binding exprs row = false

-- a table atom agrees with some row
abbrev pub atom_agrees : List Statement → List ℕ → List Value → Atom → Bool
atom_agrees statements unset binding atom = list_any (args_agree unset binding atom.args) (stated_rows statements (predicate_of atom))

abbrev pub all_agree : List Statement → List ℕ → List Value → List Atom → Bool
all_agree statements unset binding atoms = list_all (atom_agrees statements unset binding) atoms

-- ---- faults

-- the first fault among values, if there is one
abbrev pub first_fault : List Valued → Option EvalFault
first_fault [] = None
first_fault (Ok value ∷ more) = first_fault more
first_fault (Err fault ∷ more) = Some fault

-- the variables that these equations set
abbrev pub set_by : List Setting → List ℕ
set_by settings = map (λ (setting : Setting). setting.var) settings

-- A binding is reached, where these setting equations are left, and this is its first fault, or it has none. The equations hold in their order up to
-- the first one whose other side has no value; then the variables that this one and the later ones set aren't set. Where each holds, the faults of the
-- other expressions follow from left to right.
abbrev pub HasOutcome : List Statement → List Atom → List Expr → List Value → List Setting → Option EvalFault → Type 0
HasOutcome statements atoms exprs binding [] outcome =
    IsTrue (all_agree statements [] binding atoms) × (first_fault (map (expr_value binding) exprs) ≡ outcome)
HasOutcome statements atoms exprs binding (setting ∷ more) outcome =
    ((fault : EvalFault) × (expr_value binding setting.value ≡ Err fault) × (outcome ≡ Some fault) × IsTrue (all_agree statements (set_by (setting ∷ more)) binding atoms))
    ⊎ ((expr_value binding setting.value ≡ Ok (variable_value binding setting.var)) × HasOutcome statements atoms exprs binding more outcome)

-- a binding of a rule is reached, and this is its first fault, or it has none
abbrev pub IsReached : List Statement → Head → List Literal → List Setting → List Value → Option EvalFault → Type 0
IsReached statements head body settings binding outcome = HasOutcome statements (table_atoms statements body) (rule_exprs head body) binding settings outcome

-- ---- statements that leave the range

-- the first fault of some reached binding of a rule leaves the range
pub record RuleLeavesRange (statements : List Statement) (symbols : List Term) (statement : Statement) (head : Head) (body : List Literal) : Type 0 where
  pub settings : List Setting
  pub are : SettingsOf (is_table statements) statement settings
  pub binding : List Value
  pub is : IsTrue (is_binding symbols (length statement.vars) binding)
  pub reached : IsReached statements head body settings binding (Some Range)

-- the bounds of a range have to be numbers
abbrev pub both_numbers : Valued → Valued → Valued
both_numbers (Ok (values.Num low)) (Ok (values.Num high)) = Ok (values.Num low)
both_numbers low high = Err Undefined

-- what is computed of an argument of a fact, in order
abbrev pub arg_computed : Arg → List Valued
arg_computed (args.One expr) = expr_value [] expr ∷ []
arg_computed (args.Range low high) = expr_value [] low ∷ expr_value [] high ∷ both_numbers (expr_value [] low) (expr_value [] high) ∷ []

-- the first fault of a tuple of a fact, if there is one; each tuple is an instance of its own
abbrev pub tuple_fault : List Arg → Option EvalFault
tuple_fault tuple = first_fault (flat_map arg_computed tuple)

-- the first fault of some instance or reached binding of a statement leaves the range
abbrev pub KindLeavesRange : List Statement → List Term → Statement → Kind → Type 0
KindLeavesRange statements symbols statement (kinds.Rule head body) = RuleLeavesRange statements symbols statement head body
KindLeavesRange statements symbols statement (kinds.Facts fact) = (tuple : List Arg) × In tuple fact.tuples × (tuple_fault tuple ≡ Some Range)
KindLeavesRange statements symbols statement (kinds.Const name value) = ⊥
KindLeavesRange statements symbols statement (kinds.Show shown) = ⊥

abbrev pub LeavesRange : List Statement → List Term → Statement → Type 0
LeavesRange statements symbols statement = KindLeavesRange statements symbols statement statement.kind
