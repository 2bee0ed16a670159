use Rattle.std.proofs.Common.{◌≡◌, map, drop}
use Rattle.rule_binding.specs.declared.tables.Form.{Form}
use Rattle.rule_binding.specs.Heads.{forms_noted, tuple_form, form_said}
use Rattle.rule_binding.proofs.tables.note_tuples.Given as goal

abbrev pub invariant-loop-tuple : goal.invariant-loop-tuple
invariant-loop-tuple l = (form : Form) → forms_noted l.rows (map (tuple_form l.negative) (drop l.tuple-index l.tuples)) form (form_said l.forms form) ≡ forms_noted l.rows (map (tuple_form l.negative) l.tuples) form (form_said l.initial.forms form)
