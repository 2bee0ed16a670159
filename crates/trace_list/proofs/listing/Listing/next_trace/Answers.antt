use Rattle.std.proofs.Common.{◌≡◌}
use Rattle.std.specs.Prelude.{Result, Ok, Err, IfOk, OnOk, OnErr}
use Rattle.std.proofs.lemmas.Result.{IfOk-weaker}
use Rattle.trace_list.specs.declared.stages.Next.{Next}
use Rattle.trace_list.specs.Listing.{AddsSome, GoesOn, StaysEnded, stage_of}
use Rattle.trace_list.specs.Seeking.{Tells}
use Rattle.trace_list.proofs.Going.{some_then, keeps_seeks, stays_then, told_stage, goes_on}
use Rattle.trace_list.proofs.Logging.{joins_after, whole_then, front_behind, front_whole, on_ok, on_err}
use Rattle.trace_list.proofs.listing.Listing.next_trace.Goals as goal

pub returns-in-Ok-seek-clause-goes : goal.returns-in-Ok-seek-clause-goes
returns-in-Ok-seek-clause-goes g c =
    let old = c.args.self.now in
    let new = c.seek.new.self in
    let before = c.args.search.now in
    let after = c.seek.new.search in
    let seeks = keeps_seeks old c.leave_last.new.self new before c.leave_last.new.search after c.in-Ok.ensures.keeps c.in-Ok-seek.ensures.seeks in
    IfOk-weaker c.tell.result (Tells new after) (GoesOn old before new after) (λ next tells. goes_on old new before after next seeks tells) c.tell.ensures.next

pub returns-in-Ok-seek-clause-adds : goal.returns-in-Ok-seek-clause-adds
returns-in-Ok-seek-clause-adds g c =
    let old = c.args.search.now.kept in
    let new = c.seek.new.search.kept in
    IfOk-weaker c.tell.result (Tells c.seek.new.self c.seek.new.search) (λ (next : Next). AddsSome old new) (λ next tells. some_then old c.leave_last.new.search.kept new c.in-Ok.ensures.adds c.in-Ok-seek.ensures.adds) c.tell.ensures.next

pub returns-in-Ok-seek-clause-stage : goal.returns-in-Ok-seek-clause-stage
returns-in-Ok-seek-clause-stage g c = IfOk-weaker c.tell.result (Tells c.seek.new.self c.seek.new.search) (λ (next : Next). c.seek.new.self.stage ≡ stage_of next) (λ next tells. told_stage c.seek.new.self c.seek.new.search next tells) c.tell.ensures.next

pub returns-in-Ok-seek-clause-ended : goal.returns-in-Ok-seek-clause-ended
returns-in-Ok-seek-clause-ended g c =
    let old = c.args.self.now in
    let new = c.seek.new.self in
    let before = c.args.search.now in
    let after = c.seek.new.search in
    IfOk-weaker c.tell.result (Tells new after) (λ (next : Next). StaysEnded old before new after) (λ next tells. stays_then old c.leave_last.new.self new before c.leave_last.new.search after c.in-Ok.ensures.ended c.in-Ok-seek.ensures.ended) c.tell.ensures.next

pub returns-in-Ok-seek-clause-logs : goal.returns-in-Ok-seek-clause-logs
returns-in-Ok-seek-clause-logs g c =
    let old = c.args.self.now in
    let mid = c.leave_last.new.self in
    on_ok c.tell.result (whole_then old mid c.seek.new.self c.args.search.now c.leave_last.new.search c.seek.new.search _ _ _ (joins_after old.stage mid.stage c.in-Ok.ensures.stage) c.in-Ok.ensures.logs c.in-Ok-seek.ensures.logs)

pub returns-in-Ok-seek-clause-front : goal.returns-in-Ok-seek-clause-front
returns-in-Ok-seek-clause-front g c =
    let old = c.args.self.now in
    let mid = c.leave_last.new.self in
    on_err c.tell.result (front_whole old c.seek.new.self c.args.search.now c.seek.new.search _ _ (whole_then old mid c.seek.new.self c.args.search.now c.leave_last.new.search c.seek.new.search _ _ _ (joins_after old.stage mid.stage c.in-Ok.ensures.stage) c.in-Ok.ensures.logs c.in-Ok-seek.ensures.logs))

pub returns-in-Err-seek-clause-front : goal.returns-in-Err-seek-clause-front
returns-in-Err-seek-clause-front g c =
    let old = c.args.self.now in
    let mid = c.leave_last.new.self in
    front_behind old mid c.args.search.now c.leave_last.new.search _ _ _ (joins_after old.stage mid.stage c.in-Ok.ensures.stage) c.in-Ok.ensures.logs c.in-Err-seek.ensures.front
