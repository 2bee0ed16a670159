use Rattle.std.proofs.Common.{◌≡◌, ℕ, ◌<◌, true, not, ◌||◌}
use Rattle.tel_semantics.specs.Theory.{instance_formula, is_demanded}
use Rattle.tel_semantics.specs.Walking.{holds_in}
use Rattle.tel_semantics.proofs.walking.HtTrace.meets_everywhere.Given as goal

abbrev pub invariant-loop-k : goal.invariant-loop-k
invariant-loop-k l =
    (k : ℕ) → k < l.k → (not (is_demanded l.instance.part l.self.length k) || holds_in l.self (instance_formula l.template.nodes l.instance) k) ≡ true
