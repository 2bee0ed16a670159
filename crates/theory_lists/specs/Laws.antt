-- Laws of atoms, and what a template that means a theory lists and prints.
use Rattle.std.specs.Prelude.{◌≡◌, ◌↔◌, ℕ, Bool, List, length, nat_lt, IsTrue}
use Rattle.std.specs.List.{list_all}
use Rattle.std.specs.Cmp.{IsTotalOrder}
use Rattle.tel_rule.specs.Rising.{rises}
use Rattle.tel_rule.specs.Ground.{Ground, IsGround}
use Rattle.tel_semantics.specs.declared.ends.How.{How}
use Rattle.tel_semantics.specs.Equilibrium.{list_of}
use Rattle.tel_semantics.specs.Print.{print}
use Rattle.theory_lists.specs.Atoms.{TermAtom, term_atom_cmp, term_atom_lt, same_atom}
use Rattle.theory_lists.specs.Theories.{ProgramTheory, Means, atoms_over}
use Rattle.theory_lists.specs.Lists.{equilibria}
use Rattle.theory_lists.specs.Print.{print_theory}

-- the order of atoms is total
abbrev pub AtomsAreOrdered : Type 0
AtomsAreOrdered = IsTotalOrder term_atom_cmp

-- atoms are the same exactly where they are one
abbrev pub SameAtomsAreOne : Type 0
SameAtomsAreOne = (a b : TermAtom) → IsTrue (same_atom a b) ↔ (a ≡ b)

-- the atoms of a template strictly rise, so that each is among them once
abbrev pub AtomsOfTemplatesRise : Type 0
AtomsOfTemplatesRise = (template : Ground) → IsGround template → IsTrue (rises term_atom_lt (atoms_over template))

-- a template that means a theory has its temporal equilibrium models, in the same order
abbrev pub ListsAreOfTheories : Type 0
ListsAreOfTheories =
    (template : Ground) (said : ProgramTheory) (n : ℕ) → IsGround template → Means template said → list_of template n ≡ equilibria said n

-- whether each atom of some traces is below the count
abbrev pub are_below : ℕ → List (List (List ℕ)) → Bool
are_below count traces = list_all (list_all (list_all (λ place. nat_lt place count))) traces

-- and prints traces over its atoms the same
abbrev pub PrintsAreOfTheories : Type 0
PrintsAreOfTheories =
    (template : Ground) (said : ProgramTheory) (n : ℕ) (traces : List (List (List ℕ))) (how : How)
    → Means template said → IsTrue (are_below (length template.atoms) traces) → print template n traces how ≡ print_theory said n traces how

-- so what is printed of its temporal equilibrium models is the same
abbrev pub ListsPrintAsTheories : Type 0
ListsPrintAsTheories =
    (template : Ground) (said : ProgramTheory) (n : ℕ) (how : How)
    → IsGround template → Means template said → print template n (list_of template n) how ≡ print_theory said n (equilibria said n) how
