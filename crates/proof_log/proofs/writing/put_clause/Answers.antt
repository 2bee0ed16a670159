use Rattle.std.proofs.Common.{codes, ◌++◌}
use Rattle.std.specs.List.{flat_map}
use Rattle.tel_base.specs.declared.literals.Lit.{Lit}
use Rattle.proof_log.specs.Lines.{lit_text}
use Rattle.proof_log.proofs.Joined.{clause-parts}
use Rattle.proof_log.proofs.Steps.{puts-then, puts-short}
use Rattle.proof_log.proofs.writing.put_clause.Goals as goal

pub returns-in-Ok-put_lits : goal.returns-in-Ok-put_lits
returns-in-Ok-put_lits g c =
    rw (← clause-parts c.args.before.now (flat_map (λ (lit : Lit). lit_text lit ++ codes " ") c.args.clause.now))
    (puts-then (puts-then c.in-Ok.ensures c.in-Ok-put_lits.ensures) c.put-in-Ok-put_lits.ensures)

pub returns-in-Err-put_lits : goal.returns-in-Err-put_lits
returns-in-Err-put_lits g c =
    rw (← clause-parts c.args.before.now (flat_map (λ (lit : Lit). lit_text lit ++ codes " ") c.args.clause.now))
    (puts-short (codes "0\n") (puts-then c.in-Ok.ensures c.in-Err-put_lits.ensures))
