use Rattle.std.proofs.Common.{◌≡◌, ◌∙◌, ◌&&◌, Some, sym, subst, ap, Bool}
use Rattle.rule_binding.specs.declared.tables.Form.{Form}
use Rattle.rule_binding.specs.contracts.tables.FormPartialEq.TheImpl.{eq-value}
use Rattle.indexmap.specs.IndexMap.{Updates}
use Rattle.rule_binding.specs.Heads.{or_true, same_form, form_said}
use Rattle.rule_binding.proofs.Predicates.{derived_eq, noted-by}
use Rattle.rule_binding.proofs.tables.note_form.Goals as goal
use Rattle.rule_binding.proofs.tables.note_form.Goals.{then-rows, else-rows}

pub returns : goal.returns
returns c =
    let old = c.args.forms.now in
    let head = c.args.head in
    let all = c.if-rows.rows in
    let same : eq-value.it ≡ same_form = λ i a b. derived_eq a b i in
    let is : all ≡ (c.args.rows && or_true (form_said old head)) = elim c.if-rows.branch [
      | then-rows w ↦ w.rows-is ∙ w.all_give_rows-rows.ensures ∙ sym (ap (λ (b : Bool). b && or_true (form_said old head)) w.if-rows.true)
      | else-rows w ↦ w.rows-is ∙ w.if-rows.false ∙ sym (ap (λ (b : Bool). b && or_true (form_said old head)) w.if-rows.false)
    ] in
    noted-by old c.insert.new.self head c.args.rows all is
    (subst (λ (eq : Form → Form → Bool). Updates eq old c.insert.new.self head (Some all)) same c.in-Ok.ensures.updates)
