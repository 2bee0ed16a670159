-- Atoms that are added one list after another.
use Rattle.std.proofs.Common.{◌≡◌, ℕ, ◌+◌, ◌<◌, List, [], ◌∷◌, ◌++◌, map, length, drop, get_or, refl, sym, ap, ◌∙◌, add-one}
use Rattle.std.specs.List.{flat_map}
use Rattle.std.proofs.Math.Seq.{drop-cons}
use Rattle.tel_term.specs.declared.terms.Value.{Value}
use Rattle.tel_rule.specs.declared.formulas.Atom.{Atom}
use Rattle.atom_table.specs.Named.{NamedAtom, with_atom}
use Rattle.tel_rule.specs.declared.formulas.Formula.{Formula}
use Rattle.tel_rule.specs.declared.formulas.BinaryOp.{BinaryOp}
use Rattle.tel_rule.specs.declared.formulas.Formula.TheVariants as formulas
use Rattle.tel_rule.specs.declared.formulas.Formula.TheVariants.{rolls-Binary}
use Rattle.tel_rule.specs.declared.formulas.Formula.TheOpen as layers
use Rattle.tel_rule.specs.declared.formulas.Formula.TheFolds.{fold-roll-Formula}
use Rattle.atom_table.specs.Collected.{atom_under, with_atoms, joined, layer_atoms, formula_atoms}

pub with_both : (binding : List Value) (first second : List Atom) (known : List NamedAtom) → with_atoms binding (first ++ second) known ≡ with_atoms binding second (with_atoms binding first known)
with_both binding [] second known = refl
with_both binding (atom ∷ first) second known = with_both binding first second (with_atom known (atom_under binding atom))

-- the next one of several things, each of which has atoms
pub with_next : {X : Type 0} (atoms_of : X → List Atom) (binding : List Value) (things : List X) (i : ℕ) (thing : X) (old new : List NamedAtom) → i < length things → thing ≡ get_or things i thing → new ≡ with_atoms binding (atoms_of thing) old
    → with_atoms binding (flat_map atoms_of (drop (i + 1) things)) new ≡ with_atoms binding (flat_map atoms_of (drop i things)) old
with_next {X} atoms_of binding things i thing old new inside is put =
    let rest = drop (i + 1) things in
    let here : drop i things ≡ thing ∷ rest = drop-cons things i thing inside ∙ (λ j. sym is j ∷ drop (sym (add-one i) j) things) in
    ap (with_atoms binding (flat_map atoms_of rest)) put
    ∙ sym (ap (λ (left : List X). with_atoms binding (flat_map atoms_of left) old) here ∙ with_both binding (atoms_of thing) (flat_map atoms_of rest) old)

-- the same of formulas
joined_are : (formulas : List Formula) → joined (map formula_atoms formulas) ≡ flat_map formula_atoms formulas
joined_are [] = refl
joined_are (formula ∷ more) = ap (λ (atoms : List Atom). formula_atoms formula ++ atoms) (joined_are more)

pub with_next_formula : (binding : List Value) (formulas : List Formula) (i : ℕ) (formula : Formula) (old new : List NamedAtom) → i < length formulas → formula ≡ get_or formulas i formula → new ≡ with_atoms binding (formula_atoms formula) old
    → with_atoms binding (joined (map formula_atoms (drop (i + 1) formulas))) new ≡ with_atoms binding (joined (map formula_atoms (drop i formulas))) old
with_next_formula binding formulas i formula old new inside is put =
    ap (λ (atoms : List Atom). with_atoms binding atoms new) (joined_are (drop (i + 1) formulas)) ∙ with_next formula_atoms binding formulas i formula old new inside is put
    ∙ sym (ap (λ (atoms : List Atom). with_atoms binding atoms old) (joined_are (drop i formulas)))

-- the atoms of both operands
pub with_binary : (binding : List Value) (op : BinaryOp) (left right : Formula) (known : List NamedAtom) → with_atoms binding (formula_atoms (formulas.Binary op left right)) known ≡ with_atoms binding (formula_atoms right) (with_atoms binding (formula_atoms left) known)
with_binary binding op left right known =
    let atoms : formula_atoms (formulas.Binary op left right) ≡ formula_atoms left ++ formula_atoms right = ap formula_atoms (sym (rolls-Binary op left right)) ∙ fold-roll-Formula (List Atom) layer_atoms (layers.Binary op left right) in
    ap (λ (both : List Atom). with_atoms binding both known) atoms ∙ with_both binding (formula_atoms left) (formula_atoms right) known
