use Rattle.std.proofs.Common.{List, ◌∙◌, ap, sym}
use Rattle.tel_rule.specs.declared.statements.Literal.{Literal}
use Rattle.tel_rule.specs.declared.statements.Kind.TheVariants as kinds
use Rattle.range_faults.proofs.Firsts.{other_kind, facts_tell}
use Rattle.range_faults.proofs.finding.leaves_range.Goals as goal

pub rule_leaves-requires : goal.rule_leaves-requires
rule_leaves-requires g c = let r = c.requires in (r.0, r.1, record { inside = r.2; is = c.in-Rule.is ∙ ap (λ (l : List Literal). kinds.Rule c.in-Rule.head l) (sym c.as_slice-body.ensures) })

pub returns-in_ok-leaves-in-Rule : goal.returns-in_ok-leaves-in-Rule
returns-in_ok-leaves-in-Rule g c = λ statements rows inside. c.in_ok-leaves-in-Rule.ensures statements rows (record { inside = inside; is = c.in-Rule.is ∙ ap (λ (l : List Literal). kinds.Rule c.in-Rule.head l) (sym c.as_slice-body.ensures) })

pub returns-in-Facts : goal.returns-in-Facts
returns-in-Facts g c = λ statements rows inside. facts_tell statements c.args.symbols.now c.args.statement.now c.in-Facts.fact c.as_slice.result.now c.some_leaves-leaves.result c.in-Facts.is c.as_slice.ensures c.some_leaves-leaves.ensures

pub returns-in-Const : goal.returns-in-Const
returns-in-Const g c = λ statements rows inside. other_kind statements c.args.symbols.now c.args.statement.now _ c.in-Const.is (λ none. none)

pub returns-in-Show : goal.returns-in-Show
returns-in-Show g c = λ statements rows inside. other_kind statements c.args.symbols.now c.args.statement.now _ c.in-Show.is (λ none. none)
