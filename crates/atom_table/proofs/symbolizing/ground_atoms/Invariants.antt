use Rattle.std.proofs.Common.{◌≡◌, take, map}
use Rattle.atom_table.specs.Keys.{ground_by}
use Rattle.atom_table.proofs.symbolizing.ground_atoms.Given as goal

abbrev pub invariant-loop-key : goal.invariant-loop-key
invariant-loop-key l = l.atoms.items ≡ map (ground_by l.numbers) (take l.key-index l.keys)
