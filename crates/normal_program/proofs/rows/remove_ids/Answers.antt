use Rattle.std.proofs.Common.{◌≡◌, ℕ, suc, ◌+◌, ◌-◌, List, ◌++◌, take, sym, ap, ◌∙◌, arith, append_assoc}
use Rattle.normal_program.specs.declared.rules.NRule.{NRule}
use Rattle.normal_program.specs.Numbering.{id_at, ids_from}
use Rattle.normal_program.proofs.Places.{ids_more}
use Rattle.normal_program.proofs.rows.remove_ids.Goals as goal

pub loop-left-preserved : goal.loop-left-preserved
loop-left-preserved c =
    let rules = c.args.rules.now in
    let k = c.loop-left.left - 1 in
    let rule = c.index-rules-left.result in
    let more = c.loop-left-test.true in
    let most = c.loop-left.invariant.left in
    let one : c.loop-left.left ≡ suc k = omega (arith, more) in
    record {
      left = omega (arith, most);
      rows = λ before first start var.
          c.remove_id.ensures (first + k) var (before var ++ ids_from first var (take k rules))
          (c.loop-left.invariant.rows before first start var ∙ ap (λ (n : ℕ). before var ++ ids_from first var (take n rules)) one
          ∙ ap (λ (ids : List ℕ). before var ++ ids) (ids_more rules k first var rule (omega (arith, more, most)) c.index-rules-left.is)
          ∙ sym (append_assoc (before var) (ids_from first var (take k rules)) (id_at (first + k) var rule.head))
          ∙ ap (λ (r : NRule). (before var ++ ids_from first var (take k rules)) ++ id_at (first + k) var r.head) c.index-rules-left.is);
    }
