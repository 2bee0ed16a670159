use Rattle.std.proofs.Common.{◌∙◌, List, sym, ap, subst}
use Rattle.std.specs.Prelude.{Bool}
use Rattle.rule_binding.specs.Binding as binding
use Rattle.rule_settings.specs.Candidates.{AreMarked}
use Rattle.rule_settings.specs.Said as settings
use Rattle.rule_binding.specs.Binding.{row_vars}
use Rattle.tel_semantics.specs.Tables.{is_table}
use Rattle.range_faults.specs.Operations.{all_said}
use Rattle.range_faults.proofs.Operated.{never_leaves}
use Rattle.range_faults.proofs.Ruled.{search_of}
use Rattle.range_faults.proofs.rules.rule_leaves.Goals as goal

pub returns-then-is_none : goal.returns-then-is_none
returns-then-is_none g c = λ statements rows rule_in.
    never_leaves statements c.args.symbols.now c.args.rule.now c.args.head.now c.args.body.now rule_in.is
    (sym c.in_ok-operations.ensures ∙ ap all_said (sym c.as_slice-all.ensures.value) ∙ c.is_none.ensures c.if-is_none.true)

pub mark_rows-requires : goal.mark_rows-requires
mark_rows-requires g c = let r = c.requires in (r.0, r.1, c.args.tables.now, c.args.symbols.now, c.args.head.now, r.2)

pub range_plan-requires-clause-rule : goal.range_plan-requires-clause-rule
range_plan-requires-clause-rule g c =
    let r = c.requires in (
      r.0,
      r.1,
      c.args.symbols.now,
      c.args.head.now,
      r.2,
      subst (λ (l : List Bool). AreMarked l (row_vars (is_table r.0) c.args.body.now)) (sym c.as_slice-marked.ensures.value) (c.in_ok-marks.ensures.marks r.0 r.1 c.args.tables.now c.args.symbols.now c.args.head.now r.2),
    )

pub some_leaves-requires : goal.some_leaves-requires
some_leaves-requires g c =
    let r = c.requires in
    let number = g.N.TableNumbers.number c.args.numbers.now in
    let marks_are = subst (λ (l : List Bool). AreMarked l (row_vars (is_table r.0) c.args.body.now)) (sym c.as_slice-marked.ensures.value) (c.in_ok-marks.ensures.marks r.0 r.1 c.args.tables.now c.args.symbols.now c.args.head.now r.2) in (
      number,
      r.0,
      r.1,
      c.args.rule.now,
      c.args.head.now,
      c.args.body.now,
      search_of number r.0 r.1 c.args.tables.now c.args.symbols.now c.args.rule.now c.args.head.now c.args.body.now r.2 (all_said c.as_slice-all.result.now) (settings.all_said c.as_slice-settings.result.now) c.in_ok-plan.plan.steps.items c.in_ok-plan.plan.places c.in_ok-plan.plan.late.items
          (ap all_said c.as_slice-all.ensures.value ∙ c.in_ok-operations.ensures)
          (subst (λ (l : List binding.Setting). binding.AreSettings (binding.equations_of c.args.body.now) (row_vars (is_table r.0) c.args.body.now) l) (sym (ap settings.all_said c.as_slice-settings.ensures.value)) (c.in_ok-found.ensures (row_vars (is_table r.0) c.args.body.now) marks_are))
          (c.in_ok-plan.ensures r.0 r.1 c.args.symbols.now c.args.head.now r.2 marks_are),
    )

pub returns : goal.returns
returns g c = λ statements rows rule_in.
    let number = g.N.TableNumbers.number c.args.numbers.now in
    let marks_are = subst (λ (l : List Bool). AreMarked l (row_vars (is_table statements) c.args.body.now)) (sym c.as_slice-marked.ensures.value) (c.in_ok-marks.ensures.marks statements rows c.args.tables.now c.args.symbols.now c.args.head.now rule_in) in
    c.in_ok-leaves.ensures number statements rows c.args.rule.now c.args.head.now c.args.body.now
    (search_of number statements rows c.args.tables.now c.args.symbols.now c.args.rule.now c.args.head.now c.args.body.now rule_in (all_said c.as_slice-all.result.now) (settings.all_said c.as_slice-settings.result.now) c.in_ok-plan.plan.steps.items c.in_ok-plan.plan.places c.in_ok-plan.plan.late.items
    (ap all_said c.as_slice-all.ensures.value ∙ c.in_ok-operations.ensures)
    (subst (λ (l : List binding.Setting). binding.AreSettings (binding.equations_of c.args.body.now) (row_vars (is_table statements) c.args.body.now) l) (sym (ap settings.all_said c.as_slice-settings.ensures.value)) (c.in_ok-found.ensures (row_vars (is_table statements) c.args.body.now) marks_are))
    (c.in_ok-plan.ensures statements rows c.args.symbols.now c.args.head.now rule_in marks_are))
