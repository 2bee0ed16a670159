use Rattle.std.proofs.Common.{sym, subst}
use Rattle.tel_rule.specs.declared.statements.Program.{Program}
use Rattle.rule_constants.specs.Replaced.{IsReplaced}
use Rattle.checked_programs.proofs.Ready.{is_ready}
use Rattle.small_templates.proofs.templates.passed.Goals as goal

pub returns : goal.returns
returns c =
    is_ready c.args.program c.into_program.result c.requires c.in-Ok.ensures.sound (subst (λ (p : Program). IsReplaced c.args.program p) (sym c.into_program.ensures.program) c.in-Ok.ensures.replaced)
