-- A binding has one outcome.
use Rattle.std.proofs.Common.{◌≡◌, ◌↔◌, inl, inr, IsTrue, length, List, [], ◌∷◌, Some, Ok, Err, sym, ap, subst, ◌∙◌}
use Rattle.tel_term.specs.declared.terms.Value.{Value}
use Rattle.tel_term.specs.declared.arithmetic.EvalFault.{EvalFault}
use Rattle.tel_term.specs.Arithmetic.{Valued, expr_value}
use Rattle.tel_term.specs.declared.terms.Term.{Term}
use Rattle.tel_term.specs.declared.arithmetic.EvalFault.TheVariants.{Range}
use Rattle.tel_rule.specs.declared.statements.Head.{Head}
use Rattle.tel_rule.specs.declared.statements.Literal.{Literal}
use Rattle.tel_rule.specs.declared.statements.Statement.{Statement}
use Rattle.tel_semantics.specs.Tables.{is_table}
use Rattle.rule_binding.specs.Binding.{Setting, SettingsOf, equations_of, row_vars, body_of}
use Rattle.rule_binding.proofs.Settings.{one_list}
use Rattle.live_instances.specs.Bindings.{is_binding}
use Rattle.live_instances.specs.Reached.{RuleLeavesRange, KindLeavesRange, IsReached}
use Rattle.live_instances.specs.Laws.{OutcomesAreOne, RulesLeaveRange}

fault_of : EvalFault → Valued → EvalFault
fault_of other (Ok value) = other
fault_of other (Err fault) = fault

same_fault : (a b : EvalFault) (valued : Valued) → valued ≡ Err a → valued ≡ Err b → a ≡ b
unfolding fault_of
same_fault a b valued first second = ap (fault_of a) (sym first ∙ second)

pub outcomes-one : OutcomesAreOne
outcomes-one statements atoms exprs binding [] a b first second = sym first.1 ∙ second.1
outcomes-one statements atoms exprs binding (setting ∷ more) a b (inl first) (inl second) =
    first.2 ∙ ap Some (same_fault first.0 second.0 (expr_value binding setting.value) first.1 second.1) ∙ sym second.2
outcomes-one statements atoms exprs binding (setting ∷ more) a b (inl first) (inr second) = let clash = sym first.1 ∙ second.0 in absurd (cc)
outcomes-one statements atoms exprs binding (setting ∷ more) a b (inr first) (inl second) = let clash = sym first.0 ∙ second.1 in absurd (cc)
outcomes-one statements atoms exprs binding (setting ∷ more) a b (inr first) (inr second) = outcomes-one statements atoms exprs binding more a b first.1 second.1

leave : (statements : List Statement) (symbols : List Term) (statement : Statement) (head : Head) (body : List Literal) (settings : List Setting)
    → SettingsOf (is_table statements) statement settings
    → RuleLeavesRange statements symbols statement head body
    ↔ ((binding : List Value) × IsTrue (is_binding symbols (length statement.vars) binding) × IsReached statements head body settings binding (Some Range))
leave statements symbols statement head body settings are = (
  λ leaves. (
    leaves.binding,
    leaves.is,
    subst (λ (other : List Setting). IsReached statements head body other leaves.binding (Some Range))
        (one_list (equations_of (body_of statement.kind)) (row_vars (is_table statements) (body_of statement.kind)) leaves.settings settings leaves.are are) leaves.reached,
  ),
  λ found. record { settings = settings; are = are; binding = found.0; is = found.1; reached = found.2 },
)

pub rules-leave : RulesLeaveRange
rules-leave statements symbols statement head body settings is are =
    let all = leave statements symbols statement head body settings are in
    (λ leaves. all.0 (subst (KindLeavesRange statements symbols statement) is leaves), λ found. subst (KindLeavesRange statements symbols statement) (sym is) (all.1 found))
