use Rattle.std.proofs.Common.{◌≡◌, ℕ, List, [], ◌∷◌, length, Some, subst, bytes_eq}
use Rattle.std.specs.Prelude.{if◌then◌else◌}
use Rattle.indexmap.specs.IndexMap.{get}
use Rattle.rule_binding.specs.declared.tables.Form.{Form}
use Rattle.rule_binding.specs.Heads.{form_noted, form_said}
use Rattle.rule_binding.proofs.States.{on_ok}
use Rattle.rule_binding.proofs.Predicates.{passed}
use Rattle.rule_binding.proofs.tables.note_atom.Goals as goal

pub returns : goal.returns
returns c =
    let old = c.args.names.now in
    let mid = c.take_forms-forms.new.names in
    let new = c.put_forms.new.names in
    let atom = c.args.atom.now in
    let before = c.take_forms-forms.result in
    let after = c.note_form.new.forms in
    let made : (form : Form) → form_said after form ≡ form_noted c.args.rows (record { negative = atom.negative; arity = length atom.args }) form (form_said before form) =
    subst (λ (n : ℕ). (form : Form) → form_said after form ≡ form_noted c.args.rows (record { negative = atom.negative; arity = n }) form (form_said before form)) c.len.ensures c.in_ok-note_form.ensures in
    on_ok c.put_forms.result
    (λ (put : (other : List ℕ) → get bytes_eq new other ≡ (if bytes_eq atom.name other then Some after else get bytes_eq mid other)).
    passed old mid new atom.name before after c.args.rows (record { negative = atom.negative; arity = length atom.args } ∷ []) c.take_forms-forms.ensures.forms c.take_forms-forms.ensures.others made put)
    c.put_forms.ensures
