use Rattle.std.proofs.Common.{◌≡◌, ◌++◌, length}
use Rattle.std.specs.Option.{option_map}
use Rattle.formula_syntax.specs.Senses.{inner_of}
use Rattle.formula_syntax.proofs.literals.inner_bytes.Given as goal

abbrev pub invariant-reading : goal.invariant-reading
invariant-reading l = option_map (λ more. l.bytes.items ++ more) (inner_of l.rest) ≡ inner_of l.fn.text

abbrev pub decreases-reading : goal.decreases-reading
decreases-reading l = length l.rest
