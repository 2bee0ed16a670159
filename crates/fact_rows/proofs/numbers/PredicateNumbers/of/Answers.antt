use Rattle.std.proofs.Common.{◌≡◌, ◌∙◌, [], List, drop, sym, ap, arith, None}
use Rattle.std.proofs.lemmas.List.{drop_all}
use Rattle.tel_rule.specs.declared.statements.Signature.{Signature}
use Rattle.tel_rule.specs.declared.statements.Statement.{Statement}
use Rattle.rule_binding.specs.Heads.{known_of}
use Rattle.fact_rows.specs.Forms.{said}
use Rattle.fact_rows.proofs.Heads.{tables-have, numbers-apart}
use Rattle.fact_rows.proofs.numbers.PredicateNumbers.of.Goals as goal

pub returns-clause-tables : goal.returns-clause-tables
returns-clause-tables c =
    let statements = c.args.statements.now in
    let index = c.loop-statement.statement-index in
    let numbers = c.loop-statement.numbers in
    let none : drop index statements ≡ [] = drop_all index statements c.loop-statement-test.false in
    let known : (predicate : Signature) → said numbers.names.keys numbers.forms predicate ≡ known_of statements predicate None = λ predicate.
    sym (ap (λ (rest : List Statement). known_of rest predicate (said numbers.names.keys numbers.forms predicate)) none) ∙ c.loop-statement.invariant.known predicate in
    tables-have numbers statements (omega arith) known

pub returns-clause-apart : goal.returns-clause-apart
returns-clause-apart c = numbers-apart c.loop-statement.numbers c.loop-statement.invariant.named
