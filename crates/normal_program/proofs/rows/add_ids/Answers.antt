use Rattle.std.proofs.Common.{◌≡◌, ℕ, suc, ◌+◌, List, [], ◌++◌, get_or, take, sym, ap, ◌∙◌, arith, append_assoc}
use Rattle.normal_program.specs.Numbering.{id_at, ids_from}
use Rattle.normal_program.proofs.Places.{ids_more}
use Rattle.normal_program.proofs.rows.add_ids.Goals as goal

pub returns-in-Err-clause-err : goal.returns-in-Err-clause-err
returns-in-Err-clause-err c =
    let before = λ (var : ℕ). get_or c.args.rows.now.items var [] in
    c.remove_ids.ensures before c.args.first (λ var.
    c.in-Err.ensures.err var ∙ c.loop-rule.invariant.rows var ∙ ap (λ (n : ℕ). before var ++ ids_from c.args.first var (take n c.args.rules.now)) (sym c.loop-rule.invariant.place))

pub loop-rule-preserved : goal.loop-rule-preserved
loop-rule-preserved c =
    let k = c.loop-rule.rule-index in
    let rules = c.args.rules.now in
    let first = c.args.first in
    let rule = c.rule-item.result in
    let place = c.loop-rule.invariant.place in
    let next : suc k ≡ k + 1 = omega arith in
    record {
      place = omega (arith, place);
      rows = λ var.
          let old = get_or c.args.rows.now.items var [] in
          c.in_default.ensures.ok var
          ∙ ap (λ (ids : List ℕ). ids ++ id_at (first + c.loop-rule.count) var rule.head) (c.loop-rule.invariant.rows var)
          ∙ ap (λ (n : ℕ). (old ++ ids_from first var (take k rules)) ++ id_at (first + n) var rule.head) place
          ∙ append_assoc old (ids_from first var (take k rules)) (id_at (first + k) var rule.head)
          ∙ ap (λ (ids : List ℕ). old ++ ids) (sym (ids_more rules k first var rule c.loop-rule-test.true c.rule-item.is))
          ∙ ap (λ (n : ℕ). old ++ ids_from first var (take n rules)) next;
    }
