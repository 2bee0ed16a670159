use Rattle.std.proofs.Common.{◌∙◌, length, ap, subst}
use Rattle.tel_rule.specs.Ground.{Ground, IsGround}
use Rattle.tel_engine.proofs.Steps.{new_engine}
use Rattle.tel_engine.proofs.engine.Engine.new.Goals as goal

pub invariant_of-result : goal.invariant_of-result
invariant_of-result g c =
    let same = c.template.view_is in
    new_engine c.args.template c.len.result c.len-2.result c.len-3.result c.args.greatest c.new.result (subst IsGround same c.template.invariant) c.requires
    (c.len.ensures ∙ ap (λ (program : Ground). length program.atoms) same) (c.len-2.ensures ∙ ap (λ (program : Ground). length program.nodes) same) (c.len-3.ensures ∙ ap (λ (program : Ground). length program.instances) same)
    c.new.ensures.ground c.new.ensures.kept c.new.ensures.vars
