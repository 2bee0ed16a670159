use Rattle.std.proofs.Common.{List, ℕ, sym, ap, ◌∙◌}
use Rattle.tel_base.specs.declared.literals.Lit.{Lit}
use Rattle.proof_log.specs.Lines.{line_text}
use Rattle.proof_log.specs.declared.line.Line.TheVariants as lines
use Rattle.proof_log.proofs.Joined.{ok-same, err-same}
use Rattle.proof_log.proofs.writing.write_line.Goals as goal

pub returns-in-Module-clause-ok : goal.returns-in-Module-clause-ok
returns-in-Module-clause-ok g c =
    ok-same _ _ _ _ _ (ap line_text c.in-Module.is ∙ sym (ap (λ (clause : List Lit). line_text (lines.Module clause)) c.as_slice.ensures)) c.write_clause.ensures.ok

pub returns-in-Module-clause-err : goal.returns-in-Module-clause-err
returns-in-Module-clause-err g c =
    err-same _ _ _ _ _ (ap line_text c.in-Module.is ∙ sym (ap (λ (clause : List Lit). line_text (lines.Module clause)) c.as_slice.ensures)) c.write_clause.ensures.err

pub returns-in-Learnt-clause-ok : goal.returns-in-Learnt-clause-ok
returns-in-Learnt-clause-ok g c =
    ok-same _ _ _ _ _ (ap line_text c.in-Learnt.is ∙ sym (ap (λ (clause : List Lit). line_text (lines.Learnt clause)) c.as_slice-in-Learnt.ensures)) c.write_clause-in-Learnt.ensures.ok

pub returns-in-Learnt-clause-err : goal.returns-in-Learnt-clause-err
returns-in-Learnt-clause-err g c =
    err-same _ _ _ _ _ (ap line_text c.in-Learnt.is ∙ sym (ap (λ (clause : List Lit). line_text (lines.Learnt clause)) c.as_slice-in-Learnt.ensures)) c.write_clause-in-Learnt.ensures.err

pub returns-in-Block-clause-ok : goal.returns-in-Block-clause-ok
returns-in-Block-clause-ok g c =
    ok-same _ _ _ _ _ (ap line_text c.in-Block.is ∙ sym (ap (λ (clause : List Lit). line_text (lines.Block clause)) c.as_slice-in-Block.ensures)) c.write_clause-in-Block.ensures.ok

pub returns-in-Block-clause-err : goal.returns-in-Block-clause-err
returns-in-Block-clause-err g c =
    err-same _ _ _ _ _ (ap line_text c.in-Block.is ∙ sym (ap (λ (clause : List Lit). line_text (lines.Block clause)) c.as_slice-in-Block.ensures)) c.write_clause-in-Block.ensures.err

pub returns-in-Loop-clause-ok : goal.returns-in-Loop-clause-ok
returns-in-Loop-clause-ok g c =
    let set = ap (λ (set : List ℕ). line_text (lines.Loop c.in-Loop.atom set c.in-Loop.clause)) c.as_slice-in-Loop.ensures in
    let clause = ap (λ (clause : List Lit). line_text (lines.Loop c.in-Loop.atom c.as_slice-in-Loop.result.now clause)) c.as_slice-in-Loop-2.ensures in
    ok-same _ _ _ _ _ (ap line_text c.in-Loop.is ∙ sym set ∙ sym clause) c.write_loop.ensures.ok

pub returns-in-Loop-clause-err : goal.returns-in-Loop-clause-err
returns-in-Loop-clause-err g c =
    let set = ap (λ (set : List ℕ). line_text (lines.Loop c.in-Loop.atom set c.in-Loop.clause)) c.as_slice-in-Loop.ensures in
    let clause = ap (λ (clause : List Lit). line_text (lines.Loop c.in-Loop.atom c.as_slice-in-Loop.result.now clause)) c.as_slice-in-Loop-2.ensures in
    err-same _ _ _ _ _ (ap line_text c.in-Loop.is ∙ sym set ∙ sym clause) c.write_loop.ensures.err
