use Rattle.std.proofs.Common.{◌↔◌, Bool, List, IsTrue, sym, subst}
use Rattle.rule_binding.specs.Binding.{Vars}
use Rattle.rule_binding.specs.Waiting.{Holds, Meets}
use Rattle.rule_binding.proofs.States.{free_rule, on_ok}
use Rattle.rule_binding.proofs.state.State.settle.Goals as goal

pub returns-in-None-clause-meets : goal.returns-in-None-clause-meets
returns-in-None-clause-meets c =
    let old = c.args.self.now in
    let rule = c.args.rule in
    on_ok c.bind.result
    (λ (bound : (X : Vars) → Meets X c.bind.new.self ↔ (Meets X old × IsTrue (X rule.var))). λ (X : Vars).
    let same = free_rule X old rule (λ h. c.in-None.ensures X (subst (λ (marks : List Bool). Holds X marks) (sym c.as_slice.ensures.value) h)) in
    (λ h. same.0 ((bound X).0 h), λ h. (bound X).1 (same.1 h)))
    c.bind.ensures.meets
