use Rattle.std.proofs.Common.{◌≡◌, ℕ, ◌+◌, ◌<◌, List, [], ◌++◌, map, get_or, ap, ◌∙◌}
use Rattle.std.proofs.lemmas.Result.{on_ok_weaker}
use Rattle.tel_base.specs.declared.literals.Lit.{Lit}
use Rattle.normal_program.specs.ModuleClauses.{bodies_with, support_clause}
use Rattle.completion.proofs.SupportRows.{rows_support}
use Rattle.completion.proofs.supports.add_supports.Goals as goal

pub returns : goal.returns
returns c =
    let rules = c.as_slice.result.now in
    let low = c.least-low.result in
    let width = c.span-width.result in
    let rows = c.as_slice-2.result.now in
    let atoms = c.as_slice-atoms.result.now in
    let found = c.in_ok-rows.ensures in
    let at : (k : ℕ) → k < width → get_or rows k [] ≡ bodies_with rules (low + k) =
    λ k within. ap (λ (xs : List (List ℕ)). get_or xs k []) c.as_slice-2.ensures.value ∙ found.rows k within in
    let same = rows_support rules low width rows atoms at c.least-low.ensures c.span-width.ensures in
    on_ok_weaker c.add_by_rows.result
    (λ done. done ∙ ap (λ (more : List (List Lit)). c.args.clauses.now.items ++ more) (same ∙ (λ i. map (support_clause (c.as_slice.ensures i)) (c.as_slice-atoms.ensures i))))
    c.add_by_rows.ensures
