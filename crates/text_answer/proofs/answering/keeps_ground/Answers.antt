use Rattle.std.proofs.Common.{subst}
use Rattle.tel_rule.specs.Ground.{IsGround}
use Rattle.text_answer.proofs.answering.keeps_ground.Goals as goal

pub returns : goal.returns
returns c = subst IsGround c.template.view_is c.template.invariant
