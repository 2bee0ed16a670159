-- Laws of bindings.
use Rattle.std.specs.Prelude.{◌≡◌, ◌↔◌, ℕ, List, length, Option, Some, IsTrue}
use Rattle.std.specs.Cmp.{IsTotalOrder}
use Rattle.std.specs.declared.cmp.Ordering.TheVariants.{Equal}
use Rattle.tel_term.specs.declared.terms.Term.{Term}
use Rattle.tel_term.specs.declared.terms.Value.{Value}
use Rattle.tel_term.specs.declared.arithmetic.EvalFault.{EvalFault}
use Rattle.tel_term.specs.declared.arithmetic.EvalFault.TheVariants.{Range}
use Rattle.tel_term.specs.declared.exprs.Expr.{Expr}
use Rattle.tel_term.specs.Symbols.{IsTable}
use Rattle.tel_rule.specs.declared.formulas.Atom.{Atom}
use Rattle.tel_rule.specs.declared.statements.Head.{Head}
use Rattle.tel_rule.specs.declared.statements.Literal.{Literal}
use Rattle.tel_rule.specs.declared.statements.Statement.{Statement}
use Rattle.tel_rule.specs.declared.statements.Kind.TheVariants as kinds
use Rattle.tel_semantics.specs.Tables.{is_table}
use Rattle.rule_binding.specs.Binding.{Setting, SettingsOf}
use Rattle.live_instances.specs.Bindings.{is_binding, binding_cmp}
use Rattle.live_instances.specs.Instances.{AreLive}
use Rattle.live_instances.specs.Reached.{HasOutcome, IsReached, LeavesRange}

abbrev pub BindingsAreOrdered : Type 0
BindingsAreOrdered = (symbols : List Term) → IsTotalOrder (binding_cmp symbols)

-- bindings of a program are level only where they are one
abbrev pub LevelBindingsAreOne : Type 0
LevelBindingsAreOne =
    (symbols : List Term) (count : ℕ) (a b : List Value) → IsTable symbols → IsTrue (is_binding symbols count a) → IsTrue (is_binding symbols count b)
    → (binding_cmp symbols a b ≡ Equal) ↔ (a ≡ b)

-- a rule has at most one list of live bindings
abbrev pub LiveBindingsAreOne : Type 0
LiveBindingsAreOne =
    (statements : List Statement) (symbols : List Term) (count : ℕ) (head : Head) (body : List Literal) (a b : List (List Value))
    → AreLive statements symbols count head body a → AreLive statements symbols count head body b → a ≡ b

-- a binding has at most one outcome
abbrev pub OutcomesAreOne : Type 0
OutcomesAreOne =
    (statements : List Statement) (atoms : List Atom) (exprs : List Expr) (binding : List Value) (settings : List Setting) (a b : Option EvalFault)
    → HasOutcome statements atoms exprs binding settings a → HasOutcome statements atoms exprs binding settings b → a ≡ b

-- a rule leaves the range exactly where the first fault of some binding does that is reached by its setting equations
abbrev pub RulesLeaveRange : Type 0
RulesLeaveRange =
    (statements : List Statement) (symbols : List Term) (statement : Statement) (head : Head) (body : List Literal) (settings : List Setting)
    → statement.kind ≡ kinds.Rule head body → SettingsOf (is_table statements) statement settings
    → LeavesRange statements symbols statement
    ↔ ((binding : List Value) × IsTrue (is_binding symbols (length statement.vars) binding) × IsReached statements head body settings binding (Some Range))
