use Rattle.std.proofs.Common.{◌≡◌, ◌≤◌, ◌^◌, true, take}
use Rattle.std.specs.Prelude.{nat_lt}
use Rattle.std.specs.List.{list_all}
use Rattle.tel_base.specs.declared.literals.Lit.{Lit}
use Rattle.unfounded_sets.proofs.bounds.above_lits.Given as goal

abbrev pub invariant-loop-lit : goal.invariant-loop-lit
invariant-loop-lit l = (list_all (λ (lit : Lit). nat_lt lit.var l.bound) (take l.lit-index l.lits) ≡ true) × (l.initial.bound ≤ l.bound) × (l.bound ≤ 2 ^ 32)
