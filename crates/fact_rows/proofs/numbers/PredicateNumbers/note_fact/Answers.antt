use Rattle.std.proofs.Common.{◌≡◌, List, map, subst}
use Rattle.tel_rule.specs.declared.statements.Arg.{Arg}
use Rattle.fact_rows.specs.declared.numbers.Form.{Form}
use Rattle.fact_rows.specs.Forms.{forms_noted, tuple_form, form_said}
use Rattle.fact_rows.proofs.Heads.{noted-fact}
use Rattle.fact_rows.proofs.numbers.PredicateNumbers.note_fact.Goals as goal

pub returns : goal.returns
returns c =
    let old = c.args.self.now in
    let fact = c.args.fact.now in
    let name = c.in_ok-name.name in
    let forms = c.note_tuples.new.forms in
    let made : (form : Form) → form_said forms form ≡ forms_noted c.args.rows (map (tuple_form name fact.negative) fact.tuples) form (form_said old.forms form) =
    subst (λ (tuples : List (List Arg)). (form : Form) → form_said forms form ≡ forms_noted c.args.rows (map (tuple_form name fact.negative) tuples) form (form_said old.forms form)) c.as_slice.ensures c.in_ok-note_tuples.ensures in
    let all = noted-fact old.names.keys c.number_name.new.names.keys old.forms forms c.args.rows fact name c.requires c.in_ok-name.ensures.names c.in_ok-name.ensures.number made in
    record { named = all.named; noted = all.noted }
