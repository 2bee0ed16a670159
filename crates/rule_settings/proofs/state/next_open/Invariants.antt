use Rattle.std.proofs.Common.{◌⊎◌, ℕ, IsTrue}
use Rattle.std.specs.Prelude.{IsFalse}
use Rattle.std.specs.BTreeSet.{btree_set_len}
use Rattle.rule_binding.specs.Closure.{marked}
use Rattle.rule_settings.specs.Said.{all_said}
use Rattle.rule_settings.specs.Numbers.{is_in}
use Rattle.rule_settings.specs.Waiting.{holds_at, is_open}
use Rattle.rule_settings.proofs.state.next_open.Given as goal

abbrev pub invariant-numbers : goal.invariant-numbers
invariant-numbers l = record {
  kept : (i : ℕ) → IsTrue (is_in l.initial.ready i) → IsTrue (is_in l.ready i) ⊎ IsFalse (holds_at (is_open (marked l.bound)) (all_said l.candidates) i);
  no_more : (i : ℕ) → IsTrue (is_in l.ready i) → IsTrue (is_in l.initial.ready i);
}

abbrev pub decreases-numbers : goal.decreases-numbers
decreases-numbers l = btree_set_len l.ready
