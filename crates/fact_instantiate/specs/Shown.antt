-- Which atoms of a template are shown: all, or those of the predicates that are named, by their numbers.
use Rattle.std.specs.Prelude.{ℕ, Bool, List, [], ◌∷◌, length, if◌then◌else◌}
use Rattle.std.specs.List.{list_any, flat_map, enumerate_from}
use Rattle.tel_term.specs.declared.terms.Term.{Term}
use Rattle.tel_rule.specs.declared.statements.Signature.{Signature}
use Rattle.tel_rule.specs.declared.statements.Statement.{Statement}
use Rattle.tel_rule.specs.declared.ground.GroundAtom.{GroundAtom}
use Rattle.tel_rule.specs.declared.ground.Show.{Show}
use Rattle.tel_rule.specs.declared.ground.Show.TheVariants as shows
use Rattle.tel_rule.specs.Atoms.{name_of}
use Rattle.tel_semantics.specs.Tables.{same_predicate}
use Rattle.program_theory.specs.Theory.{is_show, named_predicates}

-- the predicate of an atom whose name is a symbol
abbrev pub ground_predicate : List Term → GroundAtom → Signature
ground_predicate symbols atom = record { negative = atom.negative; name = name_of symbols atom; arity = length atom.args }

-- whether the predicate of an atom is among these
abbrev pub is_named : List Signature → List Term → GroundAtom → Bool
is_named named symbols atom = list_any (same_predicate (ground_predicate symbols atom)) named

-- the number of an element that passes a test
abbrev pub number_if : {X : Type 0} → (X → Bool) → ℕ × X → List ℕ
number_if test one = if test one.1 then one.0 ∷ [] else []

-- the numbers of the elements that pass a test, where these are numbered from `first` on
abbrev pub numbers_from : {X : Type 0} → (X → Bool) → ℕ → List X → List ℕ
numbers_from test first xs = flat_map (number_if test) (enumerate_from first xs)

abbrev pub has_show : List Statement → Bool
has_show statements = list_any (λ (statement : Statement). is_show statement.kind) statements

-- the predicates that statements name
abbrev pub all_named : List Statement → List Signature
all_named statements = flat_map (λ (statement : Statement). named_predicates statement.kind) statements

-- all atoms where no statement says what is shown, else those of the predicates that statements name
abbrev pub show_by : List Statement → List Term → List GroundAtom → Show
show_by statements symbols atoms =
    if has_show statements then shows.Only (numbers_from (is_named (all_named statements) symbols) 0 atoms) else shows.All
