use Rattle.std.proofs.Common.{◌∙◌, ap, sym}
use Rattle.tel_rule.specs.declared.formulas.Formula.{Formula}
use Rattle.atom_table.specs.Collected.{formula_atoms, with_atoms}
use Rattle.atom_table.proofs.AddedAtoms.{with_next_formula, with_binary}
use Rattle.atom_table.proofs.seen.AtomSet.+atoms_of_formulas.Goals as goal

pub add_formulas-loop-formula-preserved : goal.add_formulas-loop-formula-preserved
add_formulas-loop-formula-preserved t c =
    with_next_formula c.args.binding.now c.args.formulas.now c.loop-formula.formula-index c.formula-item.result c.loop-formula.self c.add_formula.new.self c.loop-formula-test.true c.formula-item.is c.in_ok-add_formula.ensures ∙ c.loop-formula.invariant

pub add_formula-returns-in_ok-add_formula-in-Binary-2 : goal.add_formula-returns-in_ok-add_formula-in-Binary-2
add_formula-returns-in_ok-add_formula-in-Binary-2 t c =
    let binding = c.args.binding.now in
    let old = c.args.self.now in
    let first = c.in_ok-add_formula-in-Binary.ensures in
    let second = c.in_ok-add_formula-in-Binary-2.ensures in
    let left = c.get-in-Binary.ensures in
    let right = c.get-in-Binary-2.ensures in
    second ∙ (λ i. with_atoms binding (formula_atoms (right i)) (first i))
    ∙ ap (λ (formula : Formula). with_atoms binding (formula_atoms c.in-Binary.right) (with_atoms binding (formula_atoms formula) old)) left
    ∙ sym (with_binary binding c.in-Binary.field-0 c.in-Binary.left c.in-Binary.right old)
    ∙ ap (λ (formula : Formula). with_atoms binding (formula_atoms formula) old) (sym c.in-Binary.is)
