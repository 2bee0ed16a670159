use Rattle.std.proofs.Common.{pos, ◌+◌, ◌-◌, ◌*◌, ◌≤◌, ◌^◌, sym, ap, ◌∙◌, drop, get_or, suc, arith}
use Rattle.std.proofs.Math.Seq.{drop-cons}
use Rattle.std.specs.Option.{option_map}
use Rattle.formula_syntax.proofs.Digits.{number_of-from, too_great}
use Rattle.formula_syntax.proofs.literals.number_of.Goals as goal

pub loop-byte-init : goal.loop-byte-init
loop-byte-init c = record { told = sym (number_of-from c.args.text.now); small = omega arith }

pub returns-then-value-digit : goal.returns-then-value-digit
returns-then-value-digit c =
    let text = c.args.text.now in
    let place = c.loop-byte.byte-index in
    let value = c.loop-byte.value in
    let great : 2 ^ 31 ≤ 10 * value + (get_or text place 0 - 48) = omega arith in
    let none = too_great value (get_or text place 0) (drop (suc place) text) (drop place text) (drop-cons text place 0 (omega arith)) great in
    ap (option_map pos) (sym none ∙ c.loop-byte.invariant.told)
