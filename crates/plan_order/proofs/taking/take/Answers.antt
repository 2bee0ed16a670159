use Rattle.std.proofs.Common.{ℕ, ◌<◌, List, length, sym, subst}
use Rattle.std.specs.Prelude.{IsTrue}
use Rattle.tel_base.specs.Members.{In}
use Rattle.plan_order.specs.declared.goals.Goal.{Goal}
use Rattle.plan_order.specs.Goals.{ready, IsSound}
use Rattle.plan_order.specs.Taking.{AreColumns, Takes}
use Rattle.plan_search.specs.declared.steps.Step.TheVariants as steps
use Rattle.plan_order.proofs.Taken.{row_taken, equal_taken, compare_taken}
use Rattle.plan_order.proofs.taking.take.Goals as goal

pub columns-requires : goal.columns-requires
columns-requires c =
    subst (λ (places : List ℕ). (v : ℕ) → In v places → v < length c.args.known.now) (sym c.as_slice.ensures)
    (subst (λ (g : Goal). IsSound (length c.args.known.now) g) c.in-Row.is c.requires.sound)

pub returns-in_ok-columns-in-Row : goal.returns-in_ok-columns-in-Row
returns-in_ok-columns-in-Row c =
    subst (λ (g : Goal). Takes g c.args.known.now c.columns.new.known (steps.Row c.in-Row.predicate c.in_ok-columns-in-Row.columns)) (sym c.in-Row.is)
    (row_taken c.in-Row.predicate c.in-Row.places c.args.known.now c.columns.new.known c.in_ok-columns-in-Row.columns
    (subst (λ (places : List ℕ). AreColumns places c.args.known.now c.columns.new.known c.in_ok-columns-in-Row.columns) c.as_slice.ensures c.in_ok-columns-in-Row.ensures))

pub returns-in-Equal : goal.returns-in-Equal
returns-in-Equal c =
    let sound = subst (λ (g : Goal). IsSound (length c.args.known.now) g) c.in-Equal.is c.requires.sound in
    let all = subst (λ (g : Goal). IsTrue (ready c.args.known.now g)) c.in-Equal.is c.requires.ready in
    subst (λ (g : Goal). Takes g c.args.known.now c.column.new.known (steps.Equal c.column.result c.in-Equal.expr)) (sym c.in-Equal.is)
    (equal_taken c.in-Equal.place c.in-Equal.expr c.in-Equal.field-2 c.args.known.now c.column.new.known c.column.result c.column.ensures.place c.column.ensures.right c.column.ensures.learn sound.1 all)

pub returns-in-Compare : goal.returns-in-Compare
returns-in-Compare c =
    let sound = subst (λ (g : Goal). IsSound (length c.args.known.now) g) c.in-Compare.is c.requires.sound in
    let all = subst (λ (g : Goal). IsTrue (ready c.args.known.now g)) c.in-Compare.is c.requires.ready in
    subst (λ (g : Goal). Takes g c.args.known.now c.args.known.now (steps.Compare c.in-Compare.relation c.in-Compare.left c.in-Compare.right)) (sym c.in-Compare.is)
    (compare_taken c.in-Compare.relation c.in-Compare.left c.in-Compare.right c.in-Compare.field-3 c.args.known.now sound.0 all)
