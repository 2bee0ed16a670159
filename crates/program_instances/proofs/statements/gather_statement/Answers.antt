use Rattle.std.proofs.Common.{◌≡◌, length, sym, subst}
use Rattle.std.specs.Prelude.{IfOk, IfErr}
use Rattle.std.proofs.lemmas.Result.{IfOk-weaker}
use Rattle.tel_rule.specs.declared.statements.Kind.{Kind}
use Rattle.program_instances.specs.declared.fault.GatherFault.TheVariants as faults
use Rattle.program_instances.specs.Adding.{Gathers, Overflows}
use Rattle.program_instances.proofs.Bounds.{err-then}
use Rattle.program_instances.proofs.statements.gather_statement.Goals as goal

pub returns-in-Facts-clause-gathered : goal.returns-in-Facts-clause-gathered
returns-in-Facts-clause-gathered c =
    let program = c.args.program.now in
    let count = length c.args.statement.now.vars in
    subst (λ (kind : Kind). IfOk c.gather_fact.result (λ found. Gathers program.statements program.symbols count kind c.args.atoms.now c.gather_fact.new.atoms c.args.room found.left found.live)) (sym c.in-Facts.is)
    (IfOk-weaker c.gather_fact.result _ _ (λ found says. says program.statements program.symbols count) c.gather_fact.ensures.gathered)

pub returns-in-Facts-clause-large : goal.returns-in-Facts-clause-large
returns-in-Facts-clause-large c =
    let program = c.args.program.now in
    let count = length c.args.statement.now.vars in
    subst (λ (kind : Kind). IfErr c.gather_fact.result (λ fault. fault ≡ faults.Large → Overflows program.statements program.symbols count kind c.args.atoms.now c.args.room)) (sym c.in-Facts.is)
    (err-then c.gather_fact.result _ _ (λ fault says large. says large program.statements program.symbols count) c.gather_fact.ensures.large)
