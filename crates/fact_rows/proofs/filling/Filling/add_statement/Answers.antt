use Rattle.std.proofs.Common.{◌≡◌, sym, subst}
use Rattle.std.specs.Prelude.{OnOk, IfErr}
use Rattle.tel_rule.specs.declared.statements.Kind.{Kind}
use Rattle.fact_rows.specs.declared.filling.RowsFault.TheVariants as faults
use Rattle.fact_rows.specs.Forms.{number_in}
use Rattle.fact_rows.specs.Filling.{kind_stated, Adds, Overflows}
use Rattle.fact_rows.proofs.filling.Filling.add_statement.Goals as goal

pub returns-in-Facts-clause-added : goal.returns-in-Facts-clause-added
returns-in-Facts-clause-added c =
    let number = number_in c.args.numbers.now in
    subst (λ (kind : Kind). OnOk c.add_tuples.result (Adds number (kind_stated number kind) c.args.self.now c.add_tuples.new.self)) (sym c.in-Facts.is) c.add_tuples.ensures.added

pub returns-in-Facts-clause-large : goal.returns-in-Facts-clause-large
returns-in-Facts-clause-large c =
    let number = number_in c.args.numbers.now in
    subst (λ (kind : Kind). IfErr c.add_tuples.result (λ fault. fault ≡ faults.Large → Overflows number (kind_stated number kind) c.args.self.now)) (sym c.in-Facts.is) c.add_tuples.ensures.large
