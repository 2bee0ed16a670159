use Rattle.std.proofs.Common.{◌≡◌, ℕ, true, take, ◌-◌}
use Rattle.std.specs.Prelude.{nat_lt}
use Rattle.std.specs.List.{list_all}
use Rattle.completion.proofs.supports.span.Given as goal

abbrev pub invariant-loop-atom : goal.invariant-loop-atom
invariant-loop-atom l = list_all (λ (atom : ℕ). nat_lt (atom - l.low) l.width) (take l.atom-index l.atoms) ≡ true
