use Rattle.std.proofs.Common.{◌≡◌, ◌++◌, drop}
use Rattle.tel_rule.specs.declared.ground.GroundAtom.{GroundAtom}
use Rattle.fact_instantiate.specs.Shown.{ground_predicate, numbers_from}
use Rattle.fact_instantiate.specs.Named.{has_key}
use Rattle.fact_instantiate.proofs.showing.named_numbers.Given as goal

abbrev pub invariant-loop-number : goal.invariant-loop-number
invariant-loop-number l =
    let test = λ (atom : GroundAtom). has_key l.named (ground_predicate l.symbols atom) in
    l.numbers ++ numbers_from test l.number (drop l.number l.atoms) ≡ numbers_from test 0 l.atoms
