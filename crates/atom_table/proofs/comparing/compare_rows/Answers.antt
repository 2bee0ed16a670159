use Rattle.std.proofs.Common.{◌≡◌, ◌⊎◌, ◌≤◌, ◌∙◌, sym, inl, inr, length, arith}
use Rattle.atom_table.specs.Keys.{rank_cmp}
use Rattle.atom_table.proofs.Ends.{ends}
use Rattle.atom_table.proofs.comparing.compare_rows.Goals as goal
use Rattle.atom_table.proofs.comparing.compare_rows.Goals.{then-a-b, else-a-b}

which : (c : goal.After-cmp) → ((c.loop-at.at ≡ length c.args.a.now) ⊎ (c.loop-at.at ≡ length c.args.b.now)) × (c.loop-at.at ≤ length c.args.a.now) × (c.loop-at.at ≤ length c.args.b.now)
which c =
    elim c.if-a-b.branch [
      | then-a-b w ↦ (inl (omega (arith, w.shared-is, c.loop-at-test.false, c.loop-at.auto.at-end)), omega (arith, w.shared-is, c.loop-at.auto.at-end), omega (arith, w.shared-is, w.if-a-b.true, c.loop-at.auto.at-end))
      | else-a-b w ↦ (inr (omega (arith, w.shared-is, c.loop-at-test.false, c.loop-at.auto.at-end)), omega (arith, w.shared-is, w.if-a-b.false, c.loop-at.auto.at-end), omega (arith, w.shared-is, c.loop-at.auto.at-end))
    ]

pub returns : goal.returns
returns c =
    let w = which c in
    c.cmp.ensures ∙ sym (ends (rank_cmp c.args.ranks.now) c.args.a.now c.args.b.now c.loop-at.at w.0 w.1 w.2) ∙ c.loop-at.invariant
