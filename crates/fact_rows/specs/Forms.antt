-- Predicates by number: names have numbers, and so have the predicates of heads.
use Rattle.std.specs.Prelude.{◌≡◌, ℕ, ◌<◌, ◌^◌, Bool, true, false, not, ◌&&◌, ◌==◌, List, [], ◌∷◌, length, Option, Some, None, if◌then◌else◌, bytes_eq, nat_lt, position}
use Rattle.std.specs.List.{position_or_len}
use Rattle.indexmap.specs.IndexMap.{IndexMap, get, keys}
use Rattle.tel_rule.specs.declared.statements.Arg.{Arg}
use Rattle.tel_rule.specs.declared.statements.Signature.{Signature}
use Rattle.rule_binding.specs.Heads.{or_true}
use Rattle.fact_rows.specs.declared.numbers.Form.{Form}
use Rattle.fact_rows.specs.declared.numbers.PredicateNumbers.{PredicateNumbers}
use Rattle.rule_goals.specs.Said.{Numbers}

abbrev pub same_form : Form → Form → Bool
same_form a b = (a.name == b.name) && ((if a.negative then b.negative else not b.negative) && (a.arity == b.arity))

-- a predicate whose name has this number
abbrev pub form_of : ℕ → Signature → Form
form_of name predicate = record { name = name; negative = predicate.negative; arity = predicate.arity }

abbrev pub tuple_form : ℕ → Bool → List Arg → Form
tuple_form name negative tuple = record { name = name; negative = negative; arity = length tuple }

-- ---- what is known of the predicates of heads: whether each statement that has one as head gives rows

abbrev pub form_noted : Bool → Form → Form → Option Bool → Option Bool
form_noted rows head form known = if same_form form head then Some (rows && or_true known) else known

abbrev pub forms_noted : Bool → List Form → Form → Option Bool → Option Bool
forms_noted rows [] form known = known
forms_noted rows (head ∷ more) form known = forms_noted rows more form (form_noted rows head form known)

abbrev pub form_said : {S : Type 0} → IndexMap Form Bool S → Form → Option Bool
form_said forms form = get same_form forms form

-- the number of a name: its place among these, or their count where it isn't there
abbrev pub name_number : List (List ℕ) → List ℕ → ℕ
name_number names name = position_or_len (bytes_eq name) names

abbrev pub said : {S : Type 0} → List (List ℕ) → IndexMap Form Bool S → Signature → Option Bool
said names forms predicate = form_said forms (form_of (name_number names predicate.name) predicate)

-- only names that have a number have predicates
abbrev pub AreNamed : {S : Type 0} → List (List ℕ) → IndexMap Form Bool S → Type 0
AreNamed names forms = (form : Form) (known : Bool) → form_said forms form ≡ Some known → form.name < length names

-- ---- numbers

-- a table's number is its place among the predicates of heads, where that has 32 bits
abbrev pub number_at : Option ℕ → Option ℕ
number_at None = None
number_at (Some place) = if nat_lt place (2 ^ 32) then Some place else None

abbrev pub number_if : Option Bool → Option ℕ → Option ℕ
number_if None place = None
number_if (Some false) place = None
number_if (Some true) place = number_at place

abbrev pub form_number : {S : Type 0} → IndexMap Form Bool S → Form → Option ℕ
form_number forms form = number_if (form_said forms form) (position (same_form form) (keys forms))

-- the number of a predicate's table
abbrev pub number_in : PredicateNumbers → Signature → Option ℕ
number_in numbers predicate = form_number numbers.forms (form_of (name_number numbers.names.keys predicate.name) predicate)

-- different predicates have different numbers
abbrev pub AreApart : Numbers → Type 0
AreApart number = (a b : Signature) (table : ℕ) → number a ≡ Some table → number b ≡ Some table → a ≡ b
