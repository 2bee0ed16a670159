-- Theories over ground atoms, and the templates that mean them.
use Rattle.std.specs.Prelude.{◌≡◌, ℕ, ◌<◌, Bool, List, map, length}
use Rattle.tel_rule.specs.Ground.{Ground}
use Rattle.tel_semantics.specs.Theory.{DemandOver, theory}
use Rattle.tel_semantics.specs.Print.{is_shown}
use Rattle.theory_lists.specs.Atoms.{TermAtom, atom_over, atom_at}
use Rattle.theory_lists.specs.Renaming.{renamed_demand}

-- the atoms of a program in their order, what is demanded of them, and which of them are printed
pub record ProgramTheory : Type 0 where
  pub atoms : List TermAtom
  pub demands : List (DemandOver TermAtom)
  pub shown : TermAtom → Bool

-- the atoms of a template over its symbols
abbrev pub atoms_over : Ground → List TermAtom
atoms_over template = map (atom_over template.symbols) template.atoms

-- the atom with a number
abbrev pub numbered_atom : Ground → ℕ → TermAtom
numbered_atom template number = atom_at (atoms_over template) number

-- a template means a theory: its atoms stand for those of the theory, in the same order, its instances and pairs demand the same of them, and it shows the same
pub record Means (template : Ground) (said : ProgramTheory) : Type 0 where
  pub atoms : said.atoms ≡ atoms_over template
  pub demands : said.demands ≡ map (renamed_demand (numbered_atom template)) (theory template)
  pub shown : (number : ℕ) → number < length template.atoms → is_shown template.show number ≡ said.shown (numbered_atom template number)
