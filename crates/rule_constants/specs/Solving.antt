-- How values of definitions are found, each after those that it names.
use Rattle.std.specs.Prelude.{◌≡◌, ◌<◌, ⊤, ◌⊎◌, if◌then◌else◌, bytes_eq, ℕ, zero, suc, Bool, true, false, List, [], ◌∷◌, length, Option, Some, None, is_some, slice_get, slice_index_or}
use Rattle.indexmap.specs.IndexMap.{IndexMap, get}
use Rattle.tel_term.specs.declared.terms.Value.{Value}
use Rattle.tel_rule.specs.declared.statements.Kind.{Kind}
use Rattle.tel_rule.specs.declared.statements.Kind.TheVariants as kinds
use Rattle.tel_rule.specs.declared.statements.Statement.{Statement}
use Rattle.rule_constants.specs.Constants.{defines, definition_of, needs_of, Values, values_after}
use Rattle.rule_constants.specs.Operands.{by_number}

abbrev pub kind_needs : List (Option ℕ) → Kind → List ℕ
kind_needs links (kinds.Const name expr) = needs_of links expr
kind_needs links (kinds.Rule head body) = []
kind_needs links (kinds.Facts fact) = []
kind_needs links (kinds.Show shown) = []

abbrev pub statement_needs : List (Option ℕ) → Option Statement → List ℕ
statement_needs links None = []
statement_needs links (Some statement) = kind_needs links statement.kind

-- the definitions that the one with this number names
abbrev pub definition_needs : List Statement → List (Option ℕ) → ℕ → List ℕ
definition_needs statements links number = statement_needs links (slice_get statements number)

-- it never has a value
abbrev pub HasNone : List Statement → List (Option ℕ) → ℕ → Type 0
HasNone statements links number = (rounds : ℕ) → values_after statements links rounds number ≡ None

-- the known values are right
abbrev pub AreSound : List Statement → List (Option ℕ) → Values → Type 0
AreSound statements links known =
    (rounds : ℕ) × ((number : ℕ) (value : Value) → known number ≡ Some value → values_after statements links rounds number ≡ Some value)

-- how many were not tried
abbrev pub untried : List Bool → ℕ
untried [] = zero
untried (true ∷ more) = untried more
untried (false ∷ more) = suc (untried more)

-- each definition that was tried has its value
pub record IsSettled (statements : List Statement) (links : List (Option ℕ)) (known : List (Option Value)) (tried : List Bool) : Type 0 where
  pub known_count : length known ≡ length statements
  pub tried_count : length tried ≡ length statements
  pub sound : AreSound statements links (by_number known)
  pub settled : (number : ℕ) → slice_index_or tried number false ≡ true → is_some (by_number known number) ≡ true

-- what is known stays known
abbrev pub Grows : List (Option Value) → List (Option Value) → Type 0
Grows old new = (number : ℕ) → is_some (by_number old number) ≡ true → is_some (by_number new number) ≡ true

-- what a search for the value of a definition gives: where there is one, it is known, and all that was known
abbrev pub Solves : List Statement → List (Option ℕ) → List (Option Value) → ℕ → Bool → List (Option Value) → List Bool → Type 0
Solves statements links old start true known tried = IsSettled statements links known tried × Grows old known × (is_some (by_number known start) ≡ true)
Solves statements links old start false known tried = HasNone statements links start

-- ---- over all statements

-- the definition of a name, with one statement more
abbrev pub noted : Option ℕ → Kind → List ℕ → ℕ → Option ℕ
noted None kind name number = if defines name kind then Some number else None
noted (Some first) kind name number = Some first

abbrev pub IsFineKind : List Statement → Values → ℕ → Kind → Type 0
IsFineKind statements known number (kinds.Const name expr) = (definition_of statements name ≡ Some number) × (is_some (known number) ≡ true)
IsFineKind statements known number (kinds.Rule head body) = ⊤
IsFineKind statements known number (kinds.Facts fact) = ⊤
IsFineKind statements known number (kinds.Show shown) = ⊤

-- the constant that a statement defines, if any, is defined there first and has a known value
abbrev pub IsFine : List Statement → Values → ℕ → Option Statement → Type 0
IsFine statements known number None = ⊤
IsFine statements known number (Some statement) = IsFineKind statements known number statement.kind

abbrev pub IsFaultyKind : List Statement → List (Option ℕ) → ℕ → Kind → Type 0
IsFaultyKind statements links number (kinds.Const name expr) = (definition_of statements name ≡ Some number → ⊥) ⊎ HasNone statements links number
IsFaultyKind statements links number (kinds.Rule head body) = ⊥
IsFaultyKind statements links number (kinds.Facts fact) = ⊥
IsFaultyKind statements links number (kinds.Show shown) = ⊥

-- what a statement gives: its constant is fine, or it is faulty
abbrev pub Settles : List Statement → List (Option ℕ) → List (Option Value) → ℕ → Kind → Bool → List (Option Value) → List Bool → Type 0
Settles statements links old number kind true known tried = IsSettled statements links known tried × Grows old known × IsFineKind statements (by_number known) number kind
Settles statements links old number kind false known tried = IsFaultyKind statements links number kind

-- the map has the definition of each name
abbrev pub HasDefinitions : {S : Type 0} → IndexMap (List ℕ) ℕ S → List Statement → Type 0
HasDefinitions places statements = (name : List ℕ) → get bytes_eq places name ≡ definition_of statements name

-- each of the first statements, so many, is fine
abbrev pub AreFine : List Statement → Values → ℕ → Type 0
AreFine statements known count = (number : ℕ) → number < count → IsFine statements known number (slice_get statements number)

-- the statement with this number is faulty, and those before it are fine
abbrev pub IsFirstUnfit : List Statement → List (Option ℕ) → ℕ → Type 0
IsFirstUnfit statements links number =
    ((statement : Statement) × (slice_get statements number ≡ Some statement) × IsFaultyKind statements links number statement.kind)
    × ((known : Values) × AreSound statements links known × AreFine statements known number)
