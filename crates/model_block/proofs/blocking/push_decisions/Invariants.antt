use Rattle.std.proofs.Common.{◌≡◌, ◌≤◌, ◌-◌, ◌++◌, reverse, max}
use Rattle.tel_base.specs.Literals.{negations}
use Rattle.lit_trail.specs.Entries.{back}
use Rattle.model_block.specs.Blocking.{decided_above}
use Rattle.model_block.proofs.blocking.push_decisions.Given as goal

abbrev pub invariant-rising : goal.invariant-rising
invariant-rising l = (l.lits.items ≡ l.initial.lits.items ++ negations (reverse (decided_above 1 (back l.level l.trail.entries)))) × (1 ≤ l.level) × (l.level ≤ max 1 l.trail.level)

abbrev pub decreases-rising : goal.decreases-rising
decreases-rising l = l.trail.level - l.level
