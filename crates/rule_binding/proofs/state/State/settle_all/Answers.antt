use Rattle.std.proofs.Common.{◌∙◌, ◌++◌, ◌∷◌, [], ℕ, List, vec_len, IsTrue, refl, sym, subst}
use Rattle.rule_binding.specs.declared.rules.BindingRule.{BindingRule}
use Rattle.rule_binding.specs.Closure.{keeps}
use Rattle.rule_binding.specs.Waiting.{is_below, are_below, Meets}
use Rattle.rule_binding.proofs.States.{all_front, taken_in}
use Rattle.rule_binding.proofs.state.State.settle_all.Goals as goal

pub rules-preserved : goal.rules-preserved
rules-preserved c =
    let old = c.rules.self in
    let new = c.settle.new.self in
    let rest = c.rules.rest in
    let front = c.pop.new.self in
    let rule = c.in-Some.rule in
    let is = c.in-Some.ensures in
    let size = c.in_ok-settle.ensures.size in
    let below : IsTrue (are_below (vec_len old.bound) (front ++ rule ∷ [])) = subst (λ (rules : List BindingRule). IsTrue (are_below (vec_len old.bound) rules)) is c.rules.invariant.below in
    record {
      state = c.in_ok-settle.ensures.state;
      below = subst (λ (n : ℕ). IsTrue (are_below n front)) (sym size) (all_front (is_below (vec_len old.bound)) front rule below).0;
      meets = λ X. taken_in X old new rest front rule (Meets X c.args.self.now × IsTrue (keeps X c.args.rules)) is (c.in_ok-settle.ensures.meets X) (c.rules.invariant.meets X);
      left = c.in_ok-settle.ensures.left ∙ c.rules.invariant.left;
      size = size ∙ c.rules.invariant.size;
    }

pub returns-clause-meets : goal.returns-clause-meets
returns-clause-meets c =
    λ X. (
      λ h. (c.rules.invariant.meets X).0 (h, subst (λ (rules : List BindingRule). IsTrue (keeps X rules)) (sym c.in_default.ensures.0) refl),
      λ h. ((c.rules.invariant.meets X).1 h).0,
    )
