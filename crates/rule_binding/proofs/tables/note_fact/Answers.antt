use Rattle.std.proofs.Common.{◌≡◌, ◌∙◌, ℕ, List, map, Some, ap, subst, bytes_eq}
use Rattle.std.specs.Prelude.{if◌then◌else◌}
use Rattle.indexmap.specs.IndexMap.{get}
use Rattle.tel_rule.specs.declared.statements.Arg.{Arg}
use Rattle.tel_rule.specs.declared.statements.Signature.{Signature}
use Rattle.rule_binding.specs.declared.tables.Form.{Form}
use Rattle.rule_binding.specs.Heads.{all_noted, tuple_form, forms_noted, form_said, said}
use Rattle.rule_binding.proofs.States.{on_ok}
use Rattle.rule_binding.proofs.Predicates.{passed, tuples_named}
use Rattle.rule_binding.proofs.tables.note_fact.Goals as goal

pub returns : goal.returns
returns c =
    let old = c.args.names.now in
    let mid = c.take_forms-forms.new.names in
    let new = c.put_forms.new.names in
    let fact = c.args.fact.now in
    let rows = c.args.rows in
    let before = c.take_forms-forms.result in
    let after = c.note_tuples.new.forms in
    let heads = map (tuple_form fact.negative) fact.tuples in
    let made : (form : Form) → form_said after form ≡ forms_noted rows (map (tuple_form fact.negative) fact.tuples) form (form_said before form) =
    subst (λ (tuples : List (List Arg)). (form : Form) → form_said after form ≡ forms_noted rows (map (tuple_form fact.negative) tuples) form (form_said before form)) c.as_slice.ensures c.in_ok-note_tuples.ensures in
    on_ok c.put_forms.result
    (λ (put : (other : List ℕ) → get bytes_eq new other ≡ (if bytes_eq fact.name other then Some after else get bytes_eq mid other)) predicate.
    passed old mid new fact.name before after rows heads c.take_forms-forms.ensures.forms c.take_forms-forms.ensures.others made put predicate
    ∙ ap (λ (list : List Signature). all_noted rows list predicate (said old predicate)) (tuples_named fact fact.tuples))
    c.put_forms.ensures
