-- A program with live instances has a theory.
use Rattle.std.proofs.Common.{◌≡◌, ℕ, Bool, true, false, List, [], ◌∷◌, ◌++◌, length, refl, sym, ap, ◌∙◌}
use Rattle.std.specs.List.{flat_map}
use Rattle.std.specs.Ordering.{nat_cmp, bool_cmp, ordering_then}
use Rattle.std.specs.Cmp.Lexicographic.{slice_cmp}
use Rattle.std.specs.declared.cmp.Ordering.{Ordering}
use Rattle.std.specs.declared.cmp.Ordering.TheVariants.{Less, Equal, Greater}
use Rattle.tel_term.specs.declared.terms.Term.{Term}
use Rattle.tel_term.specs.declared.terms.Term.TheVariants as terms
use Rattle.tel_term.specs.Order.{term_cmp, name_cmp}
use Rattle.tel_term.proofs.Ordered.{terms-level}
use Rattle.theory_lists.specs.Atoms.{TermAtom, term_atom_cmp}
use Rattle.theory_lists.proofs.AtomOrder.{atoms-total}
use Rattle.program_theory.specs.Theory.{statement_demands, demanded_atoms, pair_demands, atom_predicate, is_shown_by}
use Rattle.program_theory.specs.Laws.{InstancesHaveTheories}
use Rattle.program_theory.proofs.RisingLists.{rising, IsRising, rising-is}

-- ---- atoms that are level are one

first_level : (a b : Ordering) → ordering_then a b ≡ Equal → a ≡ Equal
first_level Less b is = is
first_level Equal b is = refl
first_level Greater b is = is

rest_level : (a b : Ordering) → ordering_then a b ≡ Equal → b ≡ Equal
rest_level a b is = sym (ap (λ (o : Ordering). ordering_then o b) (first_level a b is)) ∙ is

level_signs : (a b : Bool) → bool_cmp a b ≡ Equal → a ≡ b
level_signs true true is = refl
level_signs true false is = absurd (cc)
level_signs false true is = absurd (cc)
level_signs false false is = refl

level_names : (a b : List ℕ) → name_cmp a b ≡ Equal → a ≡ b
level_names a b is = let same = (terms-level (terms.Name a) (terms.Name b)).0 is in cc

level_terms : (xs ys : List Term) → slice_cmp term_cmp xs ys ≡ Equal → xs ≡ ys
level_terms [] [] is = refl
level_terms [] (y ∷ ys) is = absurd (cc)
level_terms (x ∷ xs) [] is = absurd (cc)
level_terms (x ∷ xs) (y ∷ ys) is =
    let head = (terms-level x y).0 (first_level (term_cmp x y) (slice_cmp term_cmp xs ys) is) in
    let tail = level_terms xs ys (rest_level (term_cmp x y) (slice_cmp term_cmp xs ys) is) in
    λ i. head i ∷ tail i

pub level_atoms : (a b : TermAtom) → term_atom_cmp a b ≡ Equal → a ≡ b
level_atoms a b is =
    let args = slice_cmp term_cmp a.args b.args in
    let counted = ordering_then (nat_cmp (length a.args) (length b.args)) args in
    let signed = ordering_then (bool_cmp a.negative b.negative) counted in
    let names = level_names a.name b.name (first_level (name_cmp a.name b.name) signed is) in
    let behind = rest_level (name_cmp a.name b.name) signed is in
    let signs = level_signs a.negative b.negative (first_level (bool_cmp a.negative b.negative) counted behind) in
    let terms = level_terms a.args b.args (rest_level (nat_cmp (length a.args) (length b.args)) args (rest_level (bool_cmp a.negative b.negative) counted behind)) in
    λ i. record { negative = signs i; name = names i; args = terms i }

-- ---- the theory

abbrev pub AnAtom : TermAtom → Type 0
AnAtom atom = Unit {0}

pub rising_atoms : (atoms : List TermAtom) → IsRising term_atom_cmp atoms-total AnAtom (λ x y px py is. level_atoms x y is) atoms (rising term_atom_cmp atoms-total atoms)
rising_atoms atoms = rising-is term_atom_cmp atoms-total AnAtom (λ x y px py is. level_atoms x y is) atoms (λ atom found. tt {0})

pub instances-theory : InstancesHaveTheories
instances-theory program live are =
    let said = statement_demands program.symbols program.statements live in
    let atoms = rising term_atom_cmp atoms-total (demanded_atoms said) in
    let rise = rising_atoms (demanded_atoms said) in (
      record { atoms = atoms; demands = said ++ flat_map (pair_demands atoms) atoms; shown = λ atom. is_shown_by program.statements (atom_predicate atom) },
      record { instances = are; rise = rise.rise; atoms = rise.members; demands = refl; shown = refl },
    )
