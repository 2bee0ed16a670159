use Rattle.std.proofs.Common.{◌≡◌, ℕ, length, subst}
use Rattle.tel_semantics.specs.Tables.{predicate_of}
use Rattle.fact_rows.specs.declared.numbers.Form.{Form}
use Rattle.fact_rows.specs.Forms.{form_noted, form_said}
use Rattle.fact_rows.proofs.Heads.{noted-rule}
use Rattle.fact_rows.proofs.numbers.PredicateNumbers.note_atom.Goals as goal

pub returns : goal.returns
returns c =
    let old = c.args.self.now in
    let atom = c.args.atom.now in
    let name = c.in_ok-name.name in
    let forms = c.note_form.new.forms in
    let made : (form : Form) → form_said forms form ≡ form_noted c.args.rows (record { name = name; negative = atom.negative; arity = length atom.args }) form (form_said old.forms form) =
    subst (λ (n : ℕ). (form : Form) → form_said forms form ≡ form_noted c.args.rows (record { name = name; negative = atom.negative; arity = n }) form (form_said old.forms form)) c.len.ensures c.in_ok-note_form.ensures in
    let all = noted-rule old.names.keys c.number_name.new.names.keys old.forms forms c.args.rows (predicate_of atom) name c.requires c.in_ok-name.ensures.names c.in_ok-name.ensures.number made in
    record { named = all.named; noted = all.noted }
