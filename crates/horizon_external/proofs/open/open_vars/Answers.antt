use Rattle.std.proofs.Common.{◌≡◌, ℕ, Bool, false, ◌+◌, ◌-◌, ◌*◌, List, ◌++◌, length, get_or, sym, ap, ◌∙◌}
use Rattle.std.specs.List.{filter, range_with_len}
use Rattle.std.proofs.lemmas.Result.{IfOk-weaker}
use Rattle.horizon_external.specs.Occurring.{module_vars, occurs}
use Rattle.horizon_external.specs.Open.{open_vars_of}
use Rattle.horizon_external.proofs.Marks.{marked_occur}
use Rattle.horizon_external.proofs.open.open_vars.Goals as goal

pub returns : goal.returns
returns c =
    let w = c.width-width.result in
    let step = c.args.step.now in
    let low = (step.t + 1) * w in
    let marks = c.in_ok-marks.marks in
    let marked = c.in_ok-marks.ensures in
    let read = c.as_slice-2.ensures in
    let len : length marks.items ≡ w = sym (ap (λ (list : List Bool). length list) read.value) ∙ read.len ∙ marked.len in
    let all : c.as_slice.result.now ≡ module_vars step = c.as_slice.ensures ∙ c.in_ok-add_module.ensures ∙ ap (λ (list : List ℕ). list ++ module_vars step) c.new-vars.ensures in
    IfOk-weaker c.with_marks.result _ (λ vars. vars ≡ open_vars_of c.args.space.now.counts step)
    (λ vars same.
    same ∙ ap (λ (list : List Bool). filter (λ (v : ℕ). get_or list (v - low) false) (range_with_len low (length list))) read.value
    ∙ marked_occur marks.items low w c.as_slice.result.now len marked.marks
    ∙ ap (λ (list : List ℕ). filter (λ (v : ℕ). occurs v list) (range_with_len low w)) all
    ∙ ap (λ (x : ℕ). filter (λ (v : ℕ). occurs v (module_vars step)) (range_with_len ((step.t + 1) * x) x)) c.width-width.ensures.is)
    c.with_marks.ensures
