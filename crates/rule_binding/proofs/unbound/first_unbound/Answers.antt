use Rattle.std.proofs.Common.{ℕ, List, Bool, length, subst, ◌∙◌, ap}
use Rattle.rule_binding.specs.declared.rules.BindingRule.{BindingRule}
use Rattle.rule_binding.specs.Binding.{body_of, IsFirstMissing}
use Rattle.rule_binding.specs.Closure.{marked, IsLeast}
use Rattle.rule_binding.specs.Heads.{tells}
use Rattle.rule_binding.specs.Rules.{body_rules}
use Rattle.rule_binding.proofs.Bodies.{first_unbound_is}
use Rattle.rule_binding.proofs.unbound.first_unbound.Goals as goal

pub returns : goal.returns
returns c =
    let statement = c.args.statement.now in
    let tables = tells c.args.tables.now in
    let marks = c.in_ok-bound.bound.items in
    let rules = c.in_ok-rules.ensures ∙ ap (body_rules tables) c.body_of.ensures in
    let least : IsLeast (body_rules tables (body_of statement.kind)) (marked marks) = subst (λ (rs : List BindingRule). IsLeast rs (marked marks)) rules c.in_ok-bound.ensures in
    let by_marks : IsFirstMissing (marked marks) c.len.result c.first_missing.result = subst (λ (ms : List Bool). IsFirstMissing (marked ms) c.len.result c.first_missing.result) c.as_slice.ensures.value c.first_missing.ensures in
    let missing : IsFirstMissing (marked marks) (length statement.vars) c.first_missing.result = subst (λ (count : ℕ). IsFirstMissing (marked marks) count c.first_missing.result) c.len.ensures by_marks in
    first_unbound_is tables statement (marked marks) c.first_missing.result least missing
