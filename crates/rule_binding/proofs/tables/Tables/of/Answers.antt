use Rattle.std.proofs.Common.{◌≡◌, ◌∙◌, [], List, drop, sym, ap}
use Rattle.std.proofs.lemmas.List.{drop_all}
use Rattle.tel_rule.specs.declared.statements.Statement.{Statement}
use Rattle.rule_binding.specs.Heads.{or_false, known_of, said}
use Rattle.rule_binding.proofs.Predicates.{known-none}
use Rattle.rule_binding.proofs.tables.Tables.of.Goals as goal

pub returns : goal.returns
returns c =
    λ predicate.
    let statements = c.args.statements.now in
    let index = c.loop-statement.statement-index in
    let names = c.loop-statement.names in
    let none : drop index statements ≡ [] = drop_all index statements c.loop-statement-test.false in
    ap or_false (sym (ap (λ (rest : List Statement). known_of rest predicate (said names predicate)) none) ∙ c.loop-statement.invariant predicate)
    ∙ known-none statements predicate
