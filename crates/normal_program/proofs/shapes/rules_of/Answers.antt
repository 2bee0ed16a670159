use Rattle.std.proofs.Common.{◌≡◌, [], ◌∷◌, map, sym, ap, ◌∙◌}
use Rattle.std.proofs.lemmas.Simd.{map-map}
use Rattle.std.proofs.lemmas.Result.{IfOk-weaker}
use Rattle.tel_base.specs.declared.literals.Lit.{Lit}
use Rattle.normal_program.specs.declared.shapes.Shape.{Shape}
use Rattle.normal_program.specs.Shapes.{shape_bodies, node_rule, rules_of_node}
use Rattle.normal_program.proofs.shapes.rules_of.Goals as goal

pub returns-in-Any : goal.returns-in-Any
returns-in-Any c =
    let var = c.args.node.now.var in
    IfOk-weaker c.each.result _ (λ rules. rules.items ≡ rules_of_node c.args.node.now)
    (λ rules same.
    same ∙ ap (map (λ (lit : Lit). node_rule var (lit ∷ []))) c.as_slice-in-Any.ensures
    ∙ sym (map-map (node_rule var) (λ (lit : Lit). lit ∷ []) c.in-Any.lits)
    ∙ ap (λ (shape : Shape). map (node_rule var) (shape_bodies shape)) (sym c.in-Any.is))
    c.each.ensures

pub returns-in-AllAny : goal.returns-in-AllAny
returns-in-AllAny c =
    let var = c.args.node.now.var in
    let first = c.in-AllAny.first in
    IfOk-weaker c.each_with.result _ (λ rules. rules.items ≡ rules_of_node c.args.node.now)
    (λ rules same.
    same ∙ ap (map (λ (lit : Lit). node_rule var (first ∷ lit ∷ []))) c.as_slice-in-AllAny.ensures
    ∙ sym (map-map (node_rule var) (λ (lit : Lit). first ∷ lit ∷ []) c.in-AllAny.lits)
    ∙ ap (λ (shape : Shape). map (node_rule var) (shape_bodies shape)) (sym c.in-AllAny.is))
    c.each_with.ensures
