use Rattle.std.proofs.Common.{◌≡◌, Some, None, sym, ◌∙◌}
use Rattle.part_syntax.specs.Grammar.{plain_args}
use Rattle.part_syntax.proofs.Plain.{range_none, plain_none, plain_some}
use Rattle.part_syntax.proofs.heads.+plain_args.Goals as goal

pub returns-in-Some-Range : goal.returns-in-Some-Range
returns-in-Some-Range t c = range_none c.args.args c.pop.new.self c.in-Some-Range.field-0-0 c.in-Some-Range.field-0-1 (rw c.in-Some-Range.field-0-is at c.in-Some-Range.ensures)

pub returns-in_ok-push-in-Some : goal.returns-in_ok-push-in-Some
returns-in_ok-push-in-Some t c =
    let some : plain_args c.pop.new.self ≡ Some c.in-Some.front = sym c.in_ok-front.ensures ∙ c.in-Some.is in
    plain_some c.args.args c.pop.new.self c.in-Some-One.last c.in-Some.front c.push.new.self (rw c.in-Some-One.field-0-is at c.in-Some-One.ensures) some c.in_ok-push-in-Some.ensures.ok

pub returns-in-None-2 : goal.returns-in-None-2
returns-in-None-2 t c =
    let none : plain_args c.pop.new.self ≡ None = sym c.in_ok-front.ensures ∙ c.in-None-2.is in
    plain_none c.args.args c.pop.new.self c.in-Some-One.last (rw c.in-Some-One.field-0-is at c.in-Some-One.ensures) none
