use Rattle.std.proofs.Common.{◌≡◌, ℕ, List, suc, ◌+◌, take, sym, subst, arith, IsTrue}
use Rattle.std.specs.Prelude.{nat_lt}
use Rattle.std.specs.List.{list_all}
use Rattle.std.proofs.lemmas.Bool.{and_from, lt-ltb}
use Rattle.rule_binding.specs.Waiting.{is_below, are_below}
use Rattle.rule_binding.proofs.Marks.{all_next, below_more}
use Rattle.rule_binding.proofs.closure.above_rules.Goals as goal

pub loop-rule-preserved : goal.loop-rule-preserved
loop-rule-preserved c =
    let i = c.loop-rule.rule-index in
    let rules = c.args.rules.now in
    let rule = c.rule-item.result in
    let old = c.loop-rule.size in
    let new = c.above-size.result in
    let one : suc i ≡ i + 1 = omega arith in
    let size = c.max.ensures in
    let least = c.above-size.ensures.least in
    let needs : IsTrue (list_all (λ (v : ℕ). nat_lt v new) rule.needs) = subst (λ (vs : List ℕ). IsTrue (list_all (λ (v : ℕ). nat_lt v new) vs)) c.as_slice.ensures c.above-size.ensures.vars in
    subst (λ (n : ℕ). IsTrue (are_below new (take n rules))) one
    (all_next (is_below old) (is_below new) (below_more old new (omega (arith, size, least))) rules i rule rule c.loop-rule.invariant c.loop-rule-test.true (sym c.rule-item.is) (and_from (nat_lt rule.var new) (list_all (λ (v : ℕ). nat_lt v new) rule.needs) (lt-ltb rule.var new (omega (arith, size, least))) needs))
