use Rattle.std.proofs.Common.{◌≡◌, ℕ, Bool, ◌||◌, true, false, List, ◌∷◌, ◌++◌, [], length, get_or, sym, ap, ◌∙◌, arith}
use Rattle.std.specs.Prelude.{is_ok, ◌==◌}
use Rattle.std.specs.List.{list_any}
use Rattle.std.proofs.lemmas.Bool.{cond-true}
use Rattle.normal_program.specs.declared.rules.NRule.{NRule}
use Rattle.normal_program.specs.declared.shapes.NodeRule.{NodeRule}
use Rattle.normal_program.specs.declared.modules.ModuleParts.{ModuleParts}
use Rattle.normal_program.specs.Numbering.{ids_from}
use Rattle.normal_program.specs.Grounds.{rules_with, heads_of, is_head}
use Rattle.normal_program.proofs.Places.{rows_more, marks_more}
use Rattle.normal_program.proofs.ground.Ground.add.Goals as goal

pub invariant_of-self-2 : goal.invariant_of-self-2
invariant_of-self-2 c =
    let before = c.self.inside in
    let rules = before.rules.items in
    let more = c.in_ok-rules.rules.items in
    let parts = c.in_ok-parts.parts in
    let atoms = c.args.step.now.atoms in
    let nodes = c.args.step.now.nodes in
    let room = c.in_ok-reserve-2.ensures in
    let count = c.len.ensures in
    let appended : is_ok c.append.result ≡ true = c.append.ensures.succeeds (omega (arith, room.ok, count)) in
    let all_rules : c.append.new.self.items ≡ (rules ++ more) =
    c.append.ensures.items ∙ cond-true (is_ok c.append.result) _ _ appended ∙ ap (λ (list : List NRule). list ++ more) room.items in
    let place = c.in_ok-reserve.ensures in
    let pushed : is_ok c.push.result ≡ true = c.push.ensures.succeeds (omega (arith, place.ok)) in
    let all_parts : c.push.new.self.items ≡ (before.modules.items ++ (parts ∷ [])) =
    c.push.ensures.items ∙ cond-true (is_ok c.push.result) _ _ pushed ∙ ap (λ (list : List ModuleParts). list ++ (parts ∷ [])) place.items in
    let first : c.len-2.result ≡ length rules = c.len-2.ensures ∙ room.len ∙ before.rules.ok.0 in
    record {
      row = λ var.
          rows_more rules more var (get_or before.rows.items var []) (get_or c.add_ids.new.rows.items var []) (c.self.invariant.row var)
          (c.in_ok-add_ids.ensures.ok var
          ∙ (λ i. get_or before.rows.items var [] ++ ids_from (first i) var (c.as_slice-3.ensures.value i)))
          ∙ ap (λ (list : List NRule). rules_with list var) (sym all_rules);
      mark = λ var.
          marks_more before.modules.items parts var (get_or before.marks.items var false) (list_any (λ (atom : ℕ). atom == var) atoms) (list_any (λ (node : NodeRule). node.var == var) nodes) (get_or c.mark_nodes.new.marks.items var false)
          (c.self.invariant.mark var)
          (ap (heads_of var) (sym c.in_ok-parts.ensures))
          (c.mark_nodes.ensures.marks var
          ∙ (λ i. get_or c.mark_atoms.new.marks.items var false || list_any (λ (node : NodeRule). node.var == var) (c.as_slice-5.ensures i))
          ∙ ap (λ (b : Bool). b || list_any (λ (node : NodeRule). node.var == var) nodes)
          (c.mark_atoms.ensures.marks var ∙ (λ i. c.in_ok-make_room.ensures.marks var i || list_any (λ (atom : ℕ). atom == var) (c.as_slice-4.ensures i))))
          ∙ ap (λ (list : List ModuleParts). is_head list var) (sym all_parts);
    }
