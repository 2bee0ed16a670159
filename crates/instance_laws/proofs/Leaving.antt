-- Whether a statement leaves the range is decided, and so there is a first one that does, or none.
use Rattle.std.proofs.Common.{◌≡◌, ◌⊎◌, inl, inr, Bool, true, false, List, [], ◌∷◌, map, length, refl, sym, ap, subst, ◌∙◌, true≢false}
use Rattle.std.specs.Prelude.{Ok, Err, Option, Some, None, IsTrue}
use Rattle.tel_base.specs.Members.{In}
use Rattle.tel_base.specs.declared.places.Place.{Place}
use Rattle.tel_term.specs.declared.terms.Term.{Term}
use Rattle.tel_term.specs.declared.terms.Value.{Value}
use Rattle.tel_term.specs.declared.arithmetic.EvalFault.{EvalFault}
use Rattle.tel_term.specs.declared.arithmetic.EvalFault.TheVariants.{Undefined, Range}
use Rattle.tel_term.specs.declared.exprs.Expr.{Expr}
use Rattle.tel_term.specs.Arithmetic.{Valued, variable_value, expr_value}
use Rattle.tel_rule.specs.Atoms.{value_eq}
use Rattle.tel_rule.specs.declared.formulas.Atom.{Atom}
use Rattle.tel_rule.specs.declared.statements.Head.{Head}
use Rattle.tel_rule.specs.declared.statements.Literal.{Literal}
use Rattle.tel_rule.specs.declared.statements.Arg.{Arg}
use Rattle.tel_rule.specs.declared.statements.Kind.{Kind}
use Rattle.tel_rule.specs.declared.statements.Kind.TheVariants as kinds
use Rattle.tel_rule.specs.declared.statements.Statement.{Statement}
use Rattle.tel_semantics.specs.Tables.{is_table}
use Rattle.rule_binding.specs.Binding.{Setting, SettingsOf, equations_of, row_vars, body_of}
use Rattle.rule_binding.proofs.Settings.{exist, one_list}
use Rattle.join_plans.proofs.Exact.{value_eq-Decides}
use Rattle.live_instances.specs.Bindings.{is_binding}
use Rattle.live_instances.specs.Instances.{table_atoms, rule_exprs}
use Rattle.live_instances.specs.Reached.{all_agree, first_fault, set_by, HasOutcome, IsReached, RuleLeavesRange, KindLeavesRange, LeavesRange, tuple_fault}
use Rattle.range_faults.specs.Ranges.{NoneLeavesRange, IsFirstLeaving}
use Rattle.instance_laws.specs.Laws.{SomeOrNoneLeaves, FirstLeavingIsOne}
use Rattle.instance_laws.proofs.Bindings.{HasBindings, has_bindings}
use Rattle.instance_laws.proofs.Firsts.{Decided, IsFirst, first-none, some-decided, both-decided, same-number}

-- ---- tests and faults

true-decided : (b : Bool) → Decided (b ≡ true)
true-decided true = inl refl
true-decided false = inr (λ is. true≢false (sym is))

not_none : None ≡ Some Range → ⊥
not_none is = cc

not_undefined : Some Undefined ≡ Some Range → ⊥
not_undefined is = let same : Undefined ≡ Range = cc in cc

range-decided : (fault : Option EvalFault) → Decided (fault ≡ Some Range)
range-decided None = inr not_none
range-decided (Some Undefined) = inr not_undefined
range-decided (Some Range) = inl refl

ok_one : (a b : Value) (valued : Valued) → valued ≡ Ok a → valued ≡ Ok b → a ≡ b
ok_one a b valued first second = let both : Ok a ≡ valued = sym first in cc

err_one : (a b : EvalFault) (valued : Valued) → valued ≡ Err a → valued ≡ Err b → a ≡ b
err_one a b valued first second = let both : Err a ≡ valued = sym first in cc

not_both : (a : EvalFault) (b : Value) (valued : Valued) → valued ≡ Err a → valued ≡ Ok b → ⊥
not_both a b valued first second = let both : Err a ≡ valued = sym first in cc

some_one : (a b : EvalFault) → Some a ≡ Some b → a ≡ b
some_one a b e = cc

-- ---- reached bindings

module _ (statements : List Statement) (atoms : List Atom) (exprs : List Expr) (binding : List Value) where
  -- the first fault leaves the range
  abbrev Outcome : List Setting → Type 0
  Outcome settings = HasOutcome statements atoms exprs binding settings (Some Range)

  none-undefined : (setting : Setting) (more : List Setting) → expr_value binding setting.value ≡ Err Undefined → Outcome (setting ∷ more) → ⊥
  none-undefined setting more is (inl found) =
      not_undefined (ap Some (err_one Undefined found.0 (expr_value binding setting.value) is found.1) ∙ sym found.2)
  none-undefined setting more is (inr found) = not_both Undefined (variable_value binding setting.var) (expr_value binding setting.value) is found.0

  agrees-range : (setting : Setting) (more : List Setting) → expr_value binding setting.value ≡ Err Range → Outcome (setting ∷ more) → all_agree statements (set_by (setting ∷ more)) binding atoms ≡ true
  agrees-range setting more is (inl found) = found.3
  agrees-range setting more is (inr found) = absurd (not_both Range (variable_value binding setting.var) (expr_value binding setting.value) is found.0)

  goes-on : (setting : Setting) (more : List Setting) (value : Value) → expr_value binding setting.value ≡ Ok value → Outcome (setting ∷ more) → (value ≡ variable_value binding setting.var) × Outcome more
  goes-on setting more value is (inl found) = absurd (not_both found.0 value (expr_value binding setting.value) found.1 is)
  goes-on setting more value is (inr found) = (ok_one value (variable_value binding setting.var) (expr_value binding setting.value) is found.0, found.1)

  step-decided : (setting : Setting) (more : List Setting) → Decided (Outcome more) → (valued : Valued) → expr_value binding setting.value ≡ valued → Decided (Outcome (setting ∷ more))
  step-decided setting more rest (Err Undefined) is = inr (none-undefined setting more is)
  step-decided setting more rest (Err Range) is = by (true-decided (all_agree statements (set_by (setting ∷ more)) binding atoms))
    where
      by : Decided (all_agree statements (set_by (setting ∷ more)) binding atoms ≡ true) → Decided (Outcome (setting ∷ more))
      by (inl agree) = inl (inl (Range, is, refl, agree))
      by (inr fails) = inr (λ outcome. fails (agrees-range setting more is outcome))
  step-decided setting more rest (Ok value) is = by (true-decided (value_eq value (variable_value binding setting.var))) rest
    where
      by : Decided (value_eq value (variable_value binding setting.var) ≡ true) → Decided (Outcome more) → Decided (Outcome (setting ∷ more))
      by (inl same) (inl outcome) = inl (inr (is ∙ ap Ok ((value_eq-Decides value (variable_value binding setting.var)).0 same), outcome))
      by (inl same) (inr none) = inr (λ outcome. none (goes-on setting more value is outcome).1)
      by (inr apart) later = inr (λ outcome. apart ((value_eq-Decides value (variable_value binding setting.var)).1 (goes-on setting more value is outcome).0))

  outcome-decided : (settings : List Setting) → Decided (Outcome settings)
  outcome-decided [] = both-decided (true-decided (all_agree statements [] binding atoms)) (range-decided (first_fault (map (expr_value binding) exprs)))
  outcome-decided (setting ∷ more) = step-decided setting more (outcome-decided more) (expr_value binding setting.value) refl

-- ---- statements

module _ (statements : List Statement) (symbols : List Term) where
  -- a binding of the rule that these settings reach leaves the range
  abbrev Reaches : Statement → Head → List Literal → List Setting → List Value → Type 0
  Reaches statement head body settings binding = IsTrue (is_binding symbols (length statement.vars) binding) × IsReached statements head body settings binding (Some Range)

  reaches-decided : (statement : Statement) (head : Head) (body : List Literal) (settings : List Setting) (binding : List Value) → Decided (Reaches statement head body settings binding)
  reaches-decided statement head body settings binding =
      both-decided (true-decided (is_binding symbols (length statement.vars) binding)) (outcome-decided statements (table_atoms statements body) (rule_exprs head body) binding settings)

  rule-decided : (statement : Statement) (head : Head) (body : List Literal) → Decided (RuleLeavesRange statements symbols statement head body)
  rule-decided statement head body =
      by (some-decided (Reaches statement head body own.0) (reaches-decided statement head body own.0) list.bindings)
    where
      own : (settings : List Setting) × SettingsOf (is_table statements) statement settings
      own = exist (equations_of (body_of statement.kind)) (row_vars (is_table statements) (body_of statement.kind))

      list : HasBindings symbols (length statement.vars)
      list = has_bindings symbols (length statement.vars)

      by : Decided ((binding : List Value) × In binding list.bindings × Reaches statement head body own.0 binding) → Decided (RuleLeavesRange statements symbols statement head body)
      by (inl found) = inl (record { settings = own.0; are = own.1; binding = found.0; is = found.2.0; reached = found.2.1 })
      by (inr none) = inr (λ leaves. none (
        leaves.binding,
        list.all leaves.binding leaves.is,
        (leaves.is, subst (λ (settings : List Setting). IsReached statements head body settings leaves.binding (Some Range)) (one_list (equations_of (body_of statement.kind)) (row_vars (is_table statements) (body_of statement.kind)) leaves.settings own.0 leaves.are own.1) leaves.reached),
      ))

  kind-decided : (statement : Statement) (kind : Kind) → Decided (KindLeavesRange statements symbols statement kind)
  kind-decided statement (kinds.Rule head body) = rule-decided statement head body
  kind-decided statement (kinds.Facts fact) = some-decided (λ (tuple : List Arg). tuple_fault tuple ≡ Some Range) (λ tuple. range-decided (tuple_fault tuple)) fact.tuples
  kind-decided statement (kinds.Const name value) = inr (λ leaves. leaves)
  kind-decided statement (kinds.Show shown) = inr (λ leaves. leaves)

  pub leaves-decided : (statement : Statement) → Decided (LeavesRange statements symbols statement)
  leaves-decided statement = kind-decided statement statement.kind

  leaving : ((statement : Statement) → In statement statements → LeavesRange statements symbols statement → ⊥) ⊎ IsFirst (LeavesRange statements symbols) statements
      → NoneLeavesRange statements symbols ⊎ ((place : Place) × IsFirstLeaving statements symbols place)
  leaving (inl none) = inl none
  leaving (inr first) = inr (
    first.it.place,
    record { number = first.number; statement = first.it; at = first.at; leaves = first.holds; before = first.before; stands = refl },
  )

pub some-none : SomeOrNoneLeaves
some-none program =
    leaving program.statements program.symbols
    (first-none (LeavesRange program.statements program.symbols) (leaves-decided program.statements program.symbols) program.statements)

pub first-one : FirstLeavingIsOne
first-one statements symbols a b first second =
    first.stands
    ∙ ap (λ (statement : Statement). statement.place)
    (same-number (LeavesRange statements symbols) statements first.number second.number first.statement second.statement first.at second.at first.leaves second.leaves first.before second.before)
    ∙ sym second.stands
