use Rattle.std.proofs.Common.{◌∙◌}
use Rattle.atom_table.specs.Collected.{literal_atoms}
use Rattle.atom_table.proofs.AddedAtoms.{with_next}
use Rattle.atom_table.proofs.seen.AtomSet.add_body.Goals as goal

pub loop-literal-preserved : goal.loop-literal-preserved
loop-literal-preserved c =
    with_next literal_atoms c.args.binding.now c.args.body.now c.loop-literal.literal-index c.literal-item.result c.loop-literal.self c.add_literal.new.self c.loop-literal-test.true c.literal-item.is c.in_ok-add_literal.ensures ∙ c.loop-literal.invariant
