use Rattle.std.proofs.Common.{◌≡◌, ◌++◌, drop}
use Rattle.std.specs.List.{flat_map, enumerate_from}
use Rattle.atom_table.specs.Keys.{key_pair, key_pairs}
use Rattle.atom_table.proofs.pairing.key_pairs.Given as goal

abbrev pub invariant-loop-plain : goal.invariant-loop-plain
invariant-loop-plain l =
    l.pairs.items ++ flat_map (key_pair l.keys.keys) (enumerate_from l.plain (drop l.plain l.keys.keys)) ≡ key_pairs l.keys.keys
