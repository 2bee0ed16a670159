use Rattle.std.proofs.Common.{◌≡◌, refl, ap, subst, ◌∙◌, sym, inl}
use Rattle.std.specs.Prelude.{Ok, Err}
use Rattle.trace_list.specs.declared.stages.Stage.TheVariants as stages
use Rattle.trace_list.specs.Listing.{View, Fits}
use Rattle.trace_list.specs.Seeking.{Keeps}
use Rattle.trace_list.specs.Logging.{LogsWhole, LogsFront}
use Rattle.trace_list.proofs.Going.{adds_none, keeps_blocked, adds_blocked, left_there, stays_there, not_ended}
use Rattle.trace_list.proofs.Logging.{whole_none, front_none, blocked_last, blocked_writes}
use Rattle.trace_list.proofs.listing.Listing.leave_last.Goals as goal

pub returns-in-Err-clause-front : goal.returns-in-Err-clause-front
returns-in-Err-clause-front g c = front_none c.args.self.now c.args.search.now _

pub write_last-requires : goal.write_last-requires
write_last-requires g c = blocked_last c.args.self.now c.args.search.now c.block.new.self c.in-Ok.id c.requires c.in-Ok.ensures.vars c.in-Ok.ensures.blocked

pub returns-in-Ok-write_last-clause-keeps : goal.returns-in-Ok-write_last-clause-keeps
returns-in-Ok-write_last-clause-keeps g c =
    let i = c.self.inside in
    let blocked = c.in-Ok.ensures in
    let old : View = record { space = i.space; n = i.n; conflicts = i.conflicts; stage = i.stage } in
    let new : View = record { space = i.space; n = i.n; conflicts = i.conflicts; stage = stages.Seeking } in
    subst (λ (v : View). Keeps v c.args.search.now new c.block.new.self) c.self.view_is (keeps_blocked old c.args.search.now c.block.new.self c.in-Ok.id c.in-Found.is blocked.ground blocked.vars blocked.begun blocked.blocked)

pub returns-in-Ok-write_last-clause-adds : goal.returns-in-Ok-write_last-clause-adds
returns-in-Ok-write_last-clause-adds g c = adds_blocked c.args.self.now c.args.search.now c.block.new.self c.in-Ok.id c.requires c.in-Ok.ensures.blocked

pub returns-in-Ok-write_last-clause-ended : goal.returns-in-Ok-write_last-clause-ended
returns-in-Ok-write_last-clause-ended g c =
    let i = c.self.inside in
    let new : View = record { space = i.space; n = i.n; conflicts = i.conflicts; stage = stages.Seeking } in
    not_ended c.args.self.now.stage ((new ≡ c.args.self.now) × (c.block.new.self ≡ c.args.search.now)) (inl (ap (λ (v : View). v.stage) (sym c.self.view_is) ∙ c.in-Found.is))

pub returns-in-Ok-write_last-clause-logs : goal.returns-in-Ok-write_last-clause-logs
returns-in-Ok-write_last-clause-logs g c =
    let i = c.self.inside in
    let search = c.args.search.now in
    let blocked = c.in-Ok.ensures in
    let old : View = record { space = i.space; n = i.n; conflicts = i.conflicts; stage = i.stage } in
    let new : View = record { space = i.space; n = i.n; conflicts = i.conflicts; stage = stages.Seeking } in
    let keeps = keeps_blocked old search c.block.new.self c.in-Ok.id c.in-Found.is blocked.ground blocked.vars blocked.begun blocked.blocked in
    let writes = blocked_writes (Ok c.in-Ok-write_last.field-0) old search c.block.new.self c.in-Ok.id _ _ _ _ (subst (λ (v : View). Fits v search) (sym c.self.view_is) c.requires) c.in-Found.is blocked.ground blocked.vars blocked.blocked keeps c.in-Ok-write_last.ensures in
    subst (λ (v : View). LogsWhole v search new c.block.new.self (g.L.Sink.bytes c.args.log.now) (g.L.Sink.bytes c.write_last.new.log)) c.self.view_is (writes.log, writes.logs, writes.text.ok)

pub returns-in-Err-write_last-clause-front : goal.returns-in-Err-write_last-clause-front
returns-in-Err-write_last-clause-front g c =
    let i = c.self.inside in
    let search = c.args.search.now in
    let blocked = c.in-Ok.ensures in
    let old : View = record { space = i.space; n = i.n; conflicts = i.conflicts; stage = i.stage } in
    let new : View = record { space = i.space; n = i.n; conflicts = i.conflicts; stage = stages.Seeking } in
    let keeps = keeps_blocked old search c.block.new.self c.in-Ok.id c.in-Found.is blocked.ground blocked.vars blocked.begun blocked.blocked in
    let writes = blocked_writes (Err c.in-Err-write_last.fault) old search c.block.new.self c.in-Ok.id _ _ _ _ (subst (λ (v : View). Fits v search) (sym c.self.view_is) c.requires) c.in-Found.is blocked.ground blocked.vars blocked.blocked keeps c.in-Err-write_last.ensures in
    subst (λ (v : View). LogsFront v search (g.L.Sink.bytes c.args.log.now) (g.L.Sink.bytes c.write_last.new.log)) c.self.view_is (new, c.block.new.self, writes.log, writes.logs, writes.text.err)

pub returns-in_default : goal.returns-in_default
returns-in_default g c =
    let same = ap (λ (v : View). v.stage) c.self.view_is in
    record {
      fits = c.requires;
      stage = left_there c.args.self.now.stage (λ is. c.in_default.not-Found (same ∙ is));
      same = record { space = refl; n = refl; conflicts = refl };
      ended = stays_there c.args.self.now c.args.search.now;
      keeps = λ program n start traces ground is. is;
      adds = adds_none c.args.search.now.kept c.args.search.now.kept refl;
      ground = refl;
      vars = refl;
      logs = whole_none c.args.self.now c.args.search.now _;
      front = tt;
      faults = refl;
    }
