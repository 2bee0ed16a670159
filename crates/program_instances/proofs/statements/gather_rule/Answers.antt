use Rattle.std.proofs.Common.{◌∙◌, ℕ, ◌+◌, ◌-◌, ◌*◌, ◌^◌, ◌<◌, List, length, ap, subst}
use Rattle.std.specs.Prelude.{min}
use Rattle.tel_term.specs.declared.terms.Value.{Value}
use Rattle.tel_rule.specs.declared.statements.Kind.TheVariants as kinds
use Rattle.program_instances.specs.Gathered.{kind_named}
use Rattle.program_instances.specs.Adding.{with_all}
use Rattle.program_instances.proofs.Bounds.{rule-gathers, rule-over, atoms-over}
use Rattle.program_instances.proofs.statements.gather_rule.Goals as goal

pub returns-in-Err-clause-large : goal.returns-in-Err-clause-large
returns-in-Err-clause-large c = λ large.
    let program = c.args.program.now in
    let cost_is = c.saturating_add-cost.ensures ∙ ap (λ (n : ℕ). min (n + 1) (2 ^ 64 - 1)) c.body_nodes.ensures in
    rule-over program.statements program.symbols (length c.args.rule.now.vars) c.args.head.now c.args.body.now c.args.atoms.now c.args.room c.saturating_add-cost.result cost_is c.requires.room (c.in-Err.ensures.large large)

pub returns-in-Ok-add_bindings-clause-gathered : goal.returns-in-Ok-add_bindings-clause-gathered
returns-in-Ok-add_bindings-clause-gathered c =
    let program = c.args.program.now in
    let cost = c.saturating_add-cost.result in
    let cost_is = c.saturating_add-cost.ensures ∙ ap (λ (n : ℕ). min (n + 1) (2 ^ 64 - 1)) c.body_nodes.ensures in
    let rule = kinds.Rule c.args.head.now c.args.body.now in
    rule-gathers program.statements program.symbols (length c.args.rule.now.vars) c.args.head.now c.args.body.now c.args.atoms.now c.args.room cost cost_is c.requires.room
    c.in-Ok.live c.add_bindings.new.atoms (c.args.room - c.len.result * cost) c.in-Ok.ensures.live c.in-Ok.ensures.few (ap (λ (n : ℕ). c.args.room - n * cost) c.len.ensures)
    (c.in-Ok-add_bindings.ensures.added ∙ ap (λ (live : List (List Value)). with_all c.args.atoms.now (kind_named rule live)) c.as_slice.ensures) c.in-Ok-add_bindings.ensures.few

pub returns-in-Err-add_bindings-clause-large : goal.returns-in-Err-add_bindings-clause-large
returns-in-Err-add_bindings-clause-large c = λ large.
    let program = c.args.program.now in
    let cost = c.saturating_add-cost.result in
    let cost_is = c.saturating_add-cost.ensures ∙ ap (λ (n : ℕ). min (n + 1) (2 ^ 64 - 1)) c.body_nodes.ensures in
    let rule = kinds.Rule c.args.head.now c.args.body.now in
    atoms-over program.statements program.symbols (length c.args.rule.now.vars) c.args.head.now c.args.body.now c.args.atoms.now c.args.room cost cost_is c.requires.room
    c.in-Ok.live (c.args.room - c.len.result * cost) c.in-Ok.ensures.live c.in-Ok.ensures.few (ap (λ (n : ℕ). c.args.room - n * cost) c.len.ensures)
    (subst (λ (live : List (List Value)). c.args.room - c.len.result * cost < length (with_all c.args.atoms.now (kind_named rule live))) c.as_slice.ensures (c.in-Err-add_bindings.ensures.large large))
