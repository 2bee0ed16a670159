use Rattle.std.proofs.Common.{◌≡◌, length, rules}
use Rattle.rule_binding.specs.Binding.{row_vars}
use Rattle.rule_settings.proofs.Marked.{all_marked}
use Rattle.rule_settings.proofs.rows.mark_row_vars.Goals as goal

pub returns-clause-all : goal.returns-clause-all
returns-clause-all g c =
    let marks = c.in_ok-marks.marks in
    let len : length marks.items ≡ c.args.vars = search rules in
    λ below. all_marked marks.items (row_vars (g.T.TableTest.tables c.args.tables.now) c.args.body.now) c.args.vars len c.in_ok-marks.ensures.marks below
