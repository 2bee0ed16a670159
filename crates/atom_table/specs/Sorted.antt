-- Atoms in their order, with the symbols of their names.
use Rattle.std.specs.Prelude.{◌≡◌, ℕ, List, ◌++◌, map, slice_get, slice_index_or, Some, IsTrue}
use Rattle.std.specs.List.{list_all}
use Rattle.tel_term.specs.declared.terms.Term.{Term}
use Rattle.tel_term.specs.declared.terms.Term.TheVariants as terms
use Rattle.tel_term.specs.Symbols.{IsTable}
use Rattle.tel_rule.specs.declared.ground.GroundAtom.{GroundAtom}
use Rattle.tel_rule.specs.Rising.{rises}
use Rattle.tel_rule.specs.Atoms.{atom_lt, atom_in_range}
use Rattle.atom_table.specs.Named.{NamedAtom, named_as}

-- a table has grown at its end alone, so that each value stands for what it stood for
abbrev pub Grows : List Term → List Term → Type 0
Grows old new = (more : List Term) × (new ≡ old ++ more)

-- atoms strictly rise over a table of symbols, have their names and the symbols of their arguments among them, and stand for these in turn
pub record AreSorted (symbols : List Term) (atoms : List GroundAtom) (numbered : List NamedAtom) : Type 0 where
  pub table : IsTable symbols
  pub in_range : IsTrue (list_all (atom_in_range symbols) atoms)
  pub rise : IsTrue (rises (atom_lt symbols) atoms)
  pub stand : map (named_as symbols) atoms ≡ numbered

-- a symbol with this number is this name
abbrev pub IsNameAt : List Term → ℕ → List ℕ → Type 0
IsNameAt symbols number name = slice_get symbols number ≡ Some (terms.Name name)

-- each name is the symbol with its number
abbrev pub AreNames : List Term → List (List ℕ) → List ℕ → Type 0
AreNames symbols names numbers =
    (place : ℕ) (name : List ℕ) → slice_get names place ≡ Some name → IsNameAt symbols (slice_index_or numbers place 0) name
