use Rattle.std.proofs.Common.{◌≡◌, ◌∙◌, [], ◌∷◌, refl}
use Rattle.tel_term.specs.declared.terms.Term.TheVariants as terms
use Rattle.tel_term.specs.Symbols.{with_term}
use Rattle.layer_rows.proofs.traces.name_and_string.Goals as goal

both : with_term (with_term [] (terms.Name (112 ∷ []))) (terms.Str (34 ∷ 92 ∷ 10 ∷ [])) ≡ terms.Name (112 ∷ []) ∷ terms.Str (34 ∷ 92 ∷ 10 ∷ []) ∷ []
unfolding with_term
both = refl

pub returns : goal.returns
returns c =
    let first = c.in_ok-value.ensures.table ∙ (λ i. with_term (c.new-symbols.ensures i) (terms.Name (c.in_ok-from_slice.ensures i))) in
    c.in_ok-value-2.ensures.table ∙ (λ i. with_term (first i) (terms.Str (c.in_ok-from_slice-2.ensures i))) ∙ both
