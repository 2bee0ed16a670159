use Rattle.std.proofs.Common.{◌≡◌, ◌-◌, ◌++◌, List, replicate, length, sym, ap, subst, ◌∙◌, arith}
use Rattle.std.specs.Prelude.{Option, None}
use Rattle.std.proofs.lemmas.List.{length-append, length-replicate}
use Rattle.tel_base.specs.declared.literals.Lit.{Lit}
use Rattle.lit_trail.specs.declared.assignment.Spot.{Spot}
use Rattle.lit_trail.specs.Table.{InStep}
use Rattle.lit_trail.proofs.TableSteps.{grow_step, settled-grow}
use Rattle.lit_trail.proofs.assignment.Assignment.grow.Goals as goal

pub invariant_of-self-2 : goal.invariant_of-self-2
invariant_of-self-2 c =
    let table = c.self.inside.table.items in
    let order = c.self.inside.order.items in
    let count = c.args.vars - c.len-old.result in
    let nones : List (Option Spot) = replicate count None in
    let more = c.put_none.ensures ∙ ap (λ (xs : List (Option Spot)). xs ++ nones) c.reserve-2.ensures.items in
    let same = c.reserve.ensures.items in
    let long = ap length more ∙ length-append table nones in
    let added : length nones ≡ count = length-replicate count None in
    let ok = c.in_ok-reserve.ensures.ok in
    let kept = c.reserve.ensures.len in
    let old = c.len-old.ensures in
    let now = c.len.ensures in
    let a = c.self.inside.table.ok in
    let b = c.self.inside.order.ok in
    (subst (λ (xs : List Lit). InStep c.put_none.new.table.items xs) (sym same) (subst (λ (xs : List (Option Spot)). InStep xs order) (sym more) (grow_step table order count c.self.invariant.0)), omega (arith, long, added, ok, kept, old, now, a, b), settled-grow table c.put_none.new.table.items count c.self.inside.settled more c.self.invariant.2)
