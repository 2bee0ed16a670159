use Rattle.std.proofs.Common.{◌∙◌, ◌<◌, Bool, ℕ, ap, sym, subst, refl, length, set, true}
use Rattle.unfounded_sets.specs.Marks.{rest_of, marks_by, false_of}
use Rattle.std.specs.List.{filter, range_with_len}
use Rattle.std.proofs.lemmas.List.{length-set}
use Rattle.std.proofs.Common.{map}
use Rattle.unfounded_sets.specs.Least.{wanted_below, at}
use Rattle.unfounded_sets.proofs.Answered.{answered, marked_by, first_range, table_long}
use Rattle.unfounded_sets.proofs.answering.loop_nogood.Goals as goal

pub bounds-marks-atom : goal.bounds-marks-atom
bounds-marks-atom c =
    let n = length c.args.found.now in
    let low = first_range c.args.ground.now c.args.trail.now.entries n c.args.atom c.args.found.now c.requires.atom in
    subst (λ (k : ℕ). c.args.atom < k) (sym (table_long n c.args.marks.now c.requires.marks)) low

pub returns : goal.returns
returns c =
    let layers = c.args.ground.now in
    let entries = c.args.trail.now.entries in
    let n = length c.args.found.now in
    let low = first_range layers entries n c.args.atom c.args.found.now c.requires.atom in
    let long = table_long n c.args.marks.now c.requires.marks in
    let by : ℕ → Bool = marks_by entries (rest_of (wanted_below layers entries n) (at c.args.found.now)) layers.rules in
    answered layers entries n c.args.found.now c.mark_bodies.new.marks (record { atom = c.args.atom; set = c.in_ok-set.set; clause = c.in_ok-clause.clause }) (record {
      closed = c.requires.closed;
      below = c.requires.below;
      first = c.requires.atom;
      marked = marked_by n c.args.atom c.args.marks.now (set c.args.marks.now c.args.atom true) by (at c.mark_bodies.new.marks) c.requires.marks low long refl c.mark_bodies.ensures.marks;
    }) c.in_ok-set.ensures (c.in_ok-clause.ensures ∙ ap (λ (k : ℕ). map (false_of entries) (filter (at c.mark_bodies.new.marks) (range_with_len 0 k))) (c.mark_bodies.ensures.len ∙ length-set c.args.marks.now c.args.atom true ∙ long))
