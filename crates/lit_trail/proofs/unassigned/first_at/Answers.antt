use Rattle.std.proofs.Common.{◌∙◌, ◌<◌, ◌≤◌, ℕ, sym, ap, subst, true, false}
use Rattle.std.specs.Prelude.{Some}
use Rattle.atom_space.specs.Numbers.{Space, visible}
use Rattle.lit_trail.specs.Unassigned.{is_open}
use Rattle.lit_trail.proofs.OpenStates.{item_past, item_here, item_end, items_all, open_is}
use Rattle.lit_trail.proofs.unassigned.first_at.Goals as goal

pub loop-atom-init : goal.loop-atom-init
loop-atom-init c = items_all (is_open c.args.assignment.now.entries) (λ (atom : ℕ). visible c.args.space.now.counts atom c.args.t) c.args.space.now.counts.atoms

pub loop-atom-preserved : goal.loop-atom-preserved
loop-atom-preserved c =
    let same = ap (λ (space : Space). space.counts.atoms) c.space.view_is in
    let l : c.loop-atom.atom < c.args.space.now.counts.atoms = subst (λ (n : ℕ). c.loop-atom.atom < n) same c.loop-atom-test.true in
    let entries = c.args.assignment.now.entries in
    item_past (is_open entries) (λ (atom : ℕ). visible c.args.space.now.counts atom c.args.t) c.args.space.now.counts.atoms c.loop-atom.atom l (open_is entries (visible c.args.space.now.counts c.loop-atom.atom c.args.t) c.visible-var.result c.spot.result false c.visible-var.ensures c.spot.ensures c.if-is_none.ensures) ∙ c.loop-atom.invariant

pub returns-then-is_none : goal.returns-then-is_none
returns-then-is_none c =
    let same = ap (λ (space : Space). space.counts.atoms) c.space.view_is in
    let l : c.loop-atom.atom < c.args.space.now.counts.atoms = subst (λ (n : ℕ). c.loop-atom.atom < n) same c.loop-atom-test.true in
    let entries = c.args.assignment.now.entries in
    ap (λ (v : ℕ). Some v) c.visible-var.ensures ∙ sym (item_here (is_open entries) (λ (atom : ℕ). visible c.args.space.now.counts atom c.args.t) c.args.space.now.counts.atoms c.loop-atom.atom l (open_is entries (visible c.args.space.now.counts c.loop-atom.atom c.args.t) c.visible-var.result c.spot.result true c.visible-var.ensures c.spot.ensures c.if-is_none.ensures)) ∙ c.loop-atom.invariant

pub returns : goal.returns
returns c =
    let same = ap (λ (space : Space). space.counts.atoms) c.space.view_is in
    let l : c.args.space.now.counts.atoms ≤ c.loop-atom.atom = subst (λ (n : ℕ). n ≤ c.loop-atom.atom) same c.loop-atom-test.false in
    sym (item_end (is_open c.args.assignment.now.entries) (λ (atom : ℕ). visible c.args.space.now.counts atom c.args.t) c.args.space.now.counts.atoms c.loop-atom.atom l) ∙ c.loop-atom.invariant
