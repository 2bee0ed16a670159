use Rattle.std.proofs.Common.{◌≡◌, ◌↔◌, ◌⊎◌, ◌∙◌, inl, inr, ◌++◌, List, [], ◌∷◌, map, sym, ap, subst, ⊎_elim, if◌then◌else◌, Bool}
use Rattle.std.proofs.lemmas.Bool.{cases_Bool}
use Rattle.tel_base.proofs.Members.{In, In-append_left, In-append_right, In-append_cases, any_found}
use Rattle.tel_term.specs.declared.terms.Value.{Value}
use Rattle.tel_rule.specs.declared.formulas.Atom.{Atom}
use Rattle.atom_table.specs.Named.{NamedAtom, named_eq, has_atom, with_atom}
use Rattle.atom_table.specs.Collected.{atom_under, with_atoms}
use Rattle.atom_table.proofs.PairNumbers.{named_one}
use Rattle.atom_table.proofs.laws.atoms_of_sets.Goals as goal

-- one atom more
one_more : (known : List NamedAtom) (x atom : NamedAtom) → In atom (with_atom known x) ↔ (In atom known ⊎ (x ≡ atom))
one_more known x atom = elim (cases_Bool (has_atom known x)) [
  | inl some ↦
      let stays : with_atom known x ≡ known = ap (λ (b : Bool). if b then known else known ++ x ∷ []) some in
      let there = any_found (named_eq x) known some in
      let is : there.0 ≡ x = sym (named_one x there.0 there.2) in (
        λ h. inl (subst (λ (atoms : List NamedAtom). In atom atoms) stays h),
        λ h. subst (λ (atoms : List NamedAtom). In atom atoms) (sym stays) (⊎_elim (λ before. before) (λ same. subst (λ (y : NamedAtom). In y known) (is ∙ same) there.1) h),
      )
  | inr none ↦
      let put : with_atom known x ≡ known ++ x ∷ [] = ap (λ (b : Bool). if b then known else known ++ x ∷ []) none in (
        λ h. ⊎_elim (λ before. inl before) (λ last. ⊎_elim (λ same. inr same) (λ nothing. absurd nothing) last) (In-append_cases atom known (x ∷ []) (subst (λ (atoms : List NamedAtom). In atom atoms) put h)),
        λ h. subst (λ (atoms : List NamedAtom). In atom atoms) (sym put) (⊎_elim (λ before. In-append_left atom known (x ∷ []) before) (λ same. In-append_right atom known (x ∷ []) (inl same)) h),
      )
]

all_there : (binding : List Value) (atoms : List Atom) (known : List NamedAtom) (atom : NamedAtom) → In atom (with_atoms binding atoms known) ↔ (In atom known ⊎ In atom (map (atom_under binding) atoms))
all_there binding [] known atom = (λ h. inl h, λ h. ⊎_elim (λ before. before) (λ nothing. absurd nothing) h)
all_there binding (x ∷ more) known atom =
    let here = one_more known (atom_under binding x) atom in
    let rest = all_there binding more (with_atom known (atom_under binding x)) atom in (
      λ h. ⊎_elim (λ before. ⊎_elim (λ old. inl old) (λ same. inr (inl same)) (here.0 before)) (λ later. inr (inr later)) (rest.0 h),
      λ h. rest.1 (⊎_elim (λ old. inl (here.1 (inl old))) (λ new. ⊎_elim (λ same. inl (here.1 (inr same))) (λ later. inr later) new) h),
    )

pub returns : goal.returns
returns c = all_there
