use Rattle.std.proofs.Common.{ℕ, ◌+◌, List, ◌++◌, codes, decimal}
use Rattle.std.specs.List.{flat_map}
use Rattle.proof_log.specs.Lines.{clause_text}
use Rattle.proof_log.proofs.Joined.{loop-parts}
use Rattle.proof_log.proofs.Steps.{puts-then, puts-short}
use Rattle.proof_log.proofs.writing.put_loop.Goals as goal

abbrev vars : List ℕ → List ℕ
vars set = flat_map (λ var. decimal (var + 1) ++ codes " ") set

pub returns-in-Err : goal.returns-in-Err
returns-in-Err g c =
    rw (← loop-parts (decimal (c.args.atom + 1)) (vars c.args.set.now) (clause_text c.args.clause.now))
    (puts-short (codes "0 " ++ clause_text c.args.clause.now ++ codes "\n") (puts-short (vars c.args.set.now) c.in-Err.ensures))

pub returns-in-Ok-put_vars : goal.returns-in-Ok-put_vars
returns-in-Ok-put_vars g c =
    rw (← loop-parts (decimal (c.args.atom + 1)) (vars c.args.set.now) (clause_text c.args.clause.now))
    (puts-then (puts-then c.in-Ok.ensures c.in-Ok-put_vars.ensures) c.put_clause.ensures)

pub returns-in-Err-put_vars : goal.returns-in-Err-put_vars
returns-in-Err-put_vars g c =
    rw (← loop-parts (decimal (c.args.atom + 1)) (vars c.args.set.now) (clause_text c.args.clause.now))
    (puts-short (codes "0 " ++ clause_text c.args.clause.now ++ codes "\n") (puts-then c.in-Ok.ensures c.in-Err-put_vars.ensures))
