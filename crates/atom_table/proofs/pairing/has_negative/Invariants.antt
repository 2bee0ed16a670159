use Rattle.std.proofs.Common.{◌≡◌, drop}
use Rattle.std.specs.List.{list_any}
use Rattle.atom_table.specs.Keys.{is_negative}
use Rattle.atom_table.proofs.pairing.has_negative.Given as goal

abbrev pub invariant-loop-key : goal.invariant-loop-key
invariant-loop-key l = list_any is_negative (drop l.key-index l.keys) ≡ list_any is_negative l.keys
