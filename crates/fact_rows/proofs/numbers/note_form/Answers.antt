use Rattle.std.proofs.Common.{◌≡◌, ◌∙◌, ◌&&◌, Some, sym, subst, ap, Bool}
use Rattle.fact_rows.specs.declared.numbers.Form.{Form}
use Rattle.indexmap.specs.IndexMap.{Updates}
use Rattle.rule_binding.specs.Heads.{or_true}
use Rattle.fact_rows.specs.Forms.{form_said}
use Rattle.fact_rows.proofs.Heads.{derived, noted-by}
use Rattle.fact_rows.proofs.numbers.note_form.Goals as goal
use Rattle.fact_rows.proofs.numbers.note_form.Goals.{then-rows, else-rows}

pub returns : goal.returns
returns c =
    let old = c.args.forms.now in
    let head = c.args.head in
    let all = c.if-rows.rows in
    let is : all ≡ (c.args.rows && or_true (form_said old head)) = elim c.if-rows.branch [
      | then-rows w ↦ w.rows-is ∙ w.all_give_rows-rows.ensures ∙ sym (ap (λ (b : Bool). b && or_true (form_said old head)) w.if-rows.true)
      | else-rows w ↦ w.rows-is ∙ w.if-rows.false ∙ sym (ap (λ (b : Bool). b && or_true (form_said old head)) w.if-rows.false)
    ] in
    noted-by old c.insert.new.self head c.args.rows all is
    (subst (λ (eq : Form → Form → Bool). Updates eq old c.insert.new.self head (Some all)) derived c.in-Ok.ensures.updates)
