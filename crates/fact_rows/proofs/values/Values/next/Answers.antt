use Rattle.std.proofs.Common.{arith}
use Rattle.std.specs.Prelude.{ℤ, pos, ◌+ℤ◌}
use Rattle.std.proofs.lemmas.Int.{ints}
use mir.Syntax.{w32}
use mir.Val.{to_z, of_z}
use Rattle.fact_rows.proofs.Ranges.{next-is}
use Rattle.fact_rows.proofs.values.Values.next.Goals as goal

pub returns-then-number-high : goal.returns-then-number-high
returns-then-number-high c =
    let next : ℤ = to_z w32 (of_z w32 (to_z w32 (of_z w32 c.in-Num.number) +ℤ pos 1)) in
    next-is c.args.self c.args.now _ c.in-Range.high c.in-Num.number next c.in-Range.is c.in-Num.is (omega (arith, ints)) (omega (arith, ints))
