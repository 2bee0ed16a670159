use Rattle.std.proofs.Common.{◌≡◌, refl, sym, ap, subst, ◌∙◌}
use Rattle.std.specs.Prelude.{Ok, Err}
use Rattle.trace_list.specs.Listing.{View, Fits}
use Rattle.trace_list.specs.Seeking.{after_step}
use Rattle.trace_list.proofs.Logging.{front_none, step_last, stepped_at, step_logged, step_faults}
use Rattle.trace_list.proofs.listing.Listing.step.Goals as goal

pub returns-in-Err-clause-front : goal.returns-in-Err-clause-front
returns-in-Err-clause-front g c = front_none c.args.self.now c.args.search.now _

pub write_step-requires : goal.write_step-requires
write_step-requires g c =
    let next = c.in-Ok.ensures in
    step_last c.args.self.now c.args.search.now c.next.new.self c.in-Ok.step c.self.inside.conflicts (ap (λ (v : View). v.conflicts) c.self.view_is) c.requires.fits next.ground next.vars next.step

pub returns-in-Ok-write_step-clause-seeks : goal.returns-in-Ok-write_step-clause-seeks
returns-in-Ok-write_step-clause-seeks g c =
    let i = c.self-2.inside in
    let now : View = record { space = i.space; n = i.n; conflicts = i.conflicts; stage = i.stage } in
    let next = c.in-Ok.ensures in
    (stepped_at c.args.self.now now c.args.search.now c.next.new.self c.in-Ok.step c.stage_after-self-inside.result c.self.inside.conflicts (c.self-2.view_is ∙ c.in-Ok-write_step.ensures.same) c.stage_after-self-inside.ensures (ap (λ (v : View). v.conflicts) c.self.view_is) c.requires.fits c.requires.seeking next.ground next.vars next.step).seeks

pub returns-in-Ok-write_step-clause-adds : goal.returns-in-Ok-write_step-clause-adds
returns-in-Ok-write_step-clause-adds g c =
    let i = c.self-2.inside in
    let now : View = record { space = i.space; n = i.n; conflicts = i.conflicts; stage = i.stage } in
    let next = c.in-Ok.ensures in
    (stepped_at c.args.self.now now c.args.search.now c.next.new.self c.in-Ok.step c.stage_after-self-inside.result c.self.inside.conflicts (c.self-2.view_is ∙ c.in-Ok-write_step.ensures.same) c.stage_after-self-inside.ensures (ap (λ (v : View). v.conflicts) c.self.view_is) c.requires.fits c.requires.seeking next.ground next.vars next.step).adds

pub returns-in-Ok-write_step-clause-falls : goal.returns-in-Ok-write_step-clause-falls
returns-in-Ok-write_step-clause-falls g c =
    let i = c.self-2.inside in
    let now : View = record { space = i.space; n = i.n; conflicts = i.conflicts; stage = i.stage } in
    let next = c.in-Ok.ensures in
    (stepped_at c.args.self.now now c.args.search.now c.next.new.self c.in-Ok.step c.stage_after-self-inside.result c.self.inside.conflicts (c.self-2.view_is ∙ c.in-Ok-write_step.ensures.same) c.stage_after-self-inside.ensures (ap (λ (v : View). v.conflicts) c.self.view_is) c.requires.fits c.requires.seeking next.ground next.vars next.step).falls

pub returns-in-Ok-write_step-clause-fits : goal.returns-in-Ok-write_step-clause-fits
returns-in-Ok-write_step-clause-fits g c =
    let i = c.self-2.inside in
    let now : View = record { space = i.space; n = i.n; conflicts = i.conflicts; stage = i.stage } in
    let next = c.in-Ok.ensures in
    (stepped_at c.args.self.now now c.args.search.now c.next.new.self c.in-Ok.step c.stage_after-self-inside.result c.self.inside.conflicts (c.self-2.view_is ∙ c.in-Ok-write_step.ensures.same) c.stage_after-self-inside.ensures (ap (λ (v : View). v.conflicts) c.self.view_is) c.requires.fits c.requires.seeking next.ground next.vars next.step).fits

pub returns-in-Ok-write_step-clause-logs : goal.returns-in-Ok-write_step-clause-logs
returns-in-Ok-write_step-clause-logs g c =
    let i = c.self-2.inside in
    let now : View = record { space = i.space; n = i.n; conflicts = i.conflicts; stage = i.stage } in
    let next = c.in-Ok.ensures in
    let writes = step_logged (Ok c.in-Ok-write_step.field-0) c.args.self.now now c.args.search.now c.next.new.self c.in-Ok.step c.stage_after-self-inside.result c.self.inside.conflicts _ _ _ _ (c.self-2.view_is ∙ c.in-Ok-write_step.ensures.same) c.stage_after-self-inside.ensures (ap (λ (v : View). v.conflicts) c.self.view_is) c.requires.fits c.requires.seeking next.ground next.vars next.step c.in-Ok-write_step.ensures.writes in
    (writes.log, writes.logs, writes.text.ok)

pub returns-in-Err-write_step-clause-front : goal.returns-in-Err-write_step-clause-front
returns-in-Err-write_step-clause-front g c =
    let next = c.in-Ok.ensures in
    let old = c.args.self.now in
    let new : View = record old { stage = after_step c.in-Ok.step } in
    let writes = step_logged (Err c.in-Err-write_step.fault) old old c.args.search.now c.next.new.self c.in-Ok.step (after_step c.in-Ok.step) c.self.inside.conflicts _ _ _ _ refl refl (ap (λ (v : View). v.conflicts) c.self.view_is) c.requires.fits c.requires.seeking next.ground next.vars next.step c.in-Err-write_step.ensures.writes in
    (new, c.next.new.self, writes.log, writes.logs, writes.text.err)

pub returns-in-Ok-write_step-clause-faults : goal.returns-in-Ok-write_step-clause-faults
returns-in-Ok-write_step-clause-faults g c =
    let next = c.in-Ok.ensures in
    let last = step_last c.args.self.now c.args.search.now c.next.new.self c.in-Ok.step c.self.inside.conflicts (ap (λ (v : View). v.conflicts) c.self.view_is) c.requires.fits next.ground next.vars next.step in
    step_faults (Ok c.in-Ok-write_step.field-0) c.in-Ok.step c.args.self.now.n c.next.new.self _ _ _ _ last c.in-Ok-write_step.ensures.writes

pub returns-in-Err-write_step-clause-faults : goal.returns-in-Err-write_step-clause-faults
returns-in-Err-write_step-clause-faults g c =
    let next = c.in-Ok.ensures in
    let last = step_last c.args.self.now c.args.search.now c.next.new.self c.in-Ok.step c.self.inside.conflicts (ap (λ (v : View). v.conflicts) c.self.view_is) c.requires.fits next.ground next.vars next.step in
    step_faults (Err c.in-Err-write_step.fault) c.in-Ok.step c.args.self.now.n c.next.new.self _ _ _ _ last c.in-Err-write_step.ensures.writes
