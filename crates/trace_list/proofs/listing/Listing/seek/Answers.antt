use Rattle.std.proofs.Common.{◌≡◌, refl, sym, ap, ◌∙◌, inr}
use Rattle.trace_list.specs.Listing.{View}
use Rattle.trace_list.proofs.Going.{adds_none, some_then, seeks_none, seeks_then, stays_there, stays_then, not_ended}
use Rattle.trace_list.proofs.Logging.{joins_seeking, whole_none, whole_then, front_behind}
use Rattle.trace_list.proofs.listing.Listing.seek.Goals as goal

pub seeking-init : goal.seeking-init
seeking-init g c = (
  c.requires.fits,
  record { space = refl; n = refl; conflicts = refl },
  stays_there c.args.self.now c.args.search.now,
  seeks_none c.args.self.now c.args.search.now c.requires.left,
  adds_none c.args.search.now.kept c.args.search.now.kept refl,
  refl,
  refl,
  whole_none c.args.self.now c.args.search.now _,
  refl,
)

pub seeking-preserved : goal.seeking-preserved
seeking-preserved g c =
    let old = c.args.self.now in
    let mid = c.seeking.self in
    let new = c.step.new.self in
    let before = c.args.search.now in
    let between = c.seeking.search in
    let after = c.step.new.search in
    let so_far = c.seeking.invariant in
    let step = c.in-Ok.ensures in
    let stage = ap (λ (v : View). v.stage) (sym c.self.view_is) ∙ c.in-Seeking.is in (
      step.fits,
      record { space = step.same.space ∙ so_far.1.space; n = step.same.n ∙ so_far.1.n; conflicts = step.same.conflicts ∙ so_far.1.conflicts },
      stays_then old mid new before between after so_far.2 (not_ended mid.stage ((new ≡ mid) × (after ≡ between)) (inr stage)),
      seeks_then old mid new before between after stage so_far.3 step.seeks,
      some_then before.kept between.kept after.kept so_far.4 step.adds,
      step.ground ∙ so_far.5,
      step.vars ∙ so_far.6,
      whole_then old mid new before between after _ _ _ (joins_seeking old mid before between stage so_far.2) so_far.7 step.logs,
      step.faults ∙ so_far.8,
    )

pub returns-in-Err-clause-front : goal.returns-in-Err-clause-front
returns-in-Err-clause-front g c =
    let so_far = c.seeking.invariant in
    let stage = ap (λ (v : View). v.stage) (sym c.self.view_is) ∙ c.in-Seeking.is in
    front_behind c.args.self.now c.seeking.self c.args.search.now c.seeking.search _ _ _ (joins_seeking c.args.self.now c.seeking.self c.args.search.now c.seeking.search stage so_far.2) so_far.7 c.in-Err.ensures.front
