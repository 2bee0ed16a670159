use Rattle.std.proofs.Common.{◌≡◌, map, drop}
use Rattle.fact_rows.specs.declared.numbers.Form.{Form}
use Rattle.fact_rows.specs.Forms.{forms_noted, tuple_form, form_said}
use Rattle.fact_rows.proofs.numbers.note_tuples.Given as goal

abbrev pub invariant-loop-tuple : goal.invariant-loop-tuple
invariant-loop-tuple l =
    (form : Form) → forms_noted l.rows (map (tuple_form l.name l.negative) (drop l.tuple-index l.tuples)) form (form_said l.forms form) ≡ forms_noted l.rows (map (tuple_form l.name l.negative) l.tuples) form (form_said l.initial.forms form)
