use Rattle.std.proofs.Common.{◌≡◌, ℕ, suc, ◌+◌, get_or, take, subst, refl, arith, IsTrue}
use Rattle.std.specs.Prelude.{nat_lt}
use Rattle.std.specs.List.{list_all}
use Rattle.std.proofs.lemmas.Bool.{lt-ltb}
use Rattle.rule_binding.proofs.Marks.{all_next, lt_more}
use Rattle.rule_binding.proofs.closure.above.Goals as goal

pub loop-v-preserved : goal.loop-v-preserved
loop-v-preserved c =
    let i = c.loop-v.v-index in
    let vars = c.args.vars.now in
    let old = c.loop-v.size in
    let new = c.max-size.result in
    let one : suc i ≡ i + 1 = omega arith in
    let size = c.max-size.ensures in
    let least = c.loop-v.invariant.least in
    record {
      vars = subst (λ (n : ℕ). IsTrue (list_all (λ (v : ℕ). nat_lt v new) (take n vars))) one
          (all_next (λ (v : ℕ). nat_lt v old) (λ (v : ℕ). nat_lt v new) (lt_more old new (omega (arith, size))) vars i (get_or vars i 0) 0 c.loop-v.invariant.vars c.loop-v-test.true refl (lt-ltb (get_or vars i 0) new (omega (arith, size))));
      least = omega (arith, size, least);
    }
