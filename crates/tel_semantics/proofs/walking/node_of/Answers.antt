use Rattle.std.proofs.Common.{refl, ap, subst, ◌∙◌}
use Rattle.tel_rule.specs.Ground.{Ground, IsGround}
use Rattle.tel_semantics.proofs.NodeLaws.{node_read}
use Rattle.tel_semantics.proofs.walking.node_of.Goals as goal

pub returns : goal.returns
returns c =
    let ground = subst (λ (p : Ground). IsGround p) c.template.view_is c.template.invariant in
    node_read c.args.template.now c.args.node c.index-as_slice-node.result c.as_slice.result.now _ c.as_slice-2.result.now ground c.requires (c.as_slice.ensures ∙ ap (λ (p : Ground). p.nodes) c.template.view_is) c.index-as_slice-node.is refl c.as_slice-2.ensures
