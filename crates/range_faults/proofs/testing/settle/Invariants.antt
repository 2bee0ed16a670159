use Rattle.std.proofs.Common.{◌≡◌, drop, length}
use Rattle.rule_settings.specs.Said as settings
use Rattle.range_faults.specs.Stops.{stop}
use Rattle.range_faults.specs.Operations.{all_said}
use Rattle.range_faults.proofs.testing.settle.Given as goal

abbrev pub invariant-loop-number : goal.invariant-loop-number
invariant-loop-number l = record {
  stop : stop (all_said l.operations) l.values (drop l.number (settings.all_said l.settings)) ≡ stop (all_said l.operations) l.initial.values (settings.all_said l.settings);
  len : length l.values ≡ length l.initial.values;
}
