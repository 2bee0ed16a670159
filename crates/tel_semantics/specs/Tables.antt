-- Tables: predicates that facts alone define. What they are and which rows they have is read off the list of statements.
use Rattle.std.specs.Prelude.{ℕ, ◌+◌, ℤ, pos, negsuc, int_le, ◌+ℤ◌, ◌-ℤ◌, Bool, true, false, not, ◌&&◌, ◌||◌, ◌==◌, List, [], ◌∷◌, map, length, Ok, Err, if◌then◌else◌, bytes_eq}
use Rattle.std.specs.List.{list_all, list_any, flat_map, range_with_len}
use Rattle.tel_term.specs.declared.terms.Value.{Value}
use Rattle.tel_term.specs.declared.terms.Value.TheVariants as values
use Rattle.tel_term.specs.Arithmetic.{Valued, expr_value}
use Rattle.tel_rule.specs.Atoms.{values_eq}
use Rattle.tel_rule.specs.declared.parts.Part.{Part}
use Rattle.tel_rule.specs.declared.parts.Part.TheVariants as parts
use Rattle.tel_rule.specs.declared.formulas.Atom.{Atom}
use Rattle.tel_rule.specs.declared.statements.Head.TheVariants as heads
use Rattle.tel_rule.specs.declared.statements.Arg.{Arg}
use Rattle.tel_rule.specs.declared.statements.Arg.TheVariants as args
use Rattle.tel_rule.specs.declared.statements.Fact.{Fact}
use Rattle.tel_rule.specs.declared.statements.Signature.{Signature}
use Rattle.tel_rule.specs.declared.statements.Kind.{Kind}
use Rattle.tel_rule.specs.declared.statements.Kind.TheVariants as kinds
use Rattle.tel_rule.specs.declared.statements.Statement.{Statement}

-- ---- predicates

-- a predicate is a sign, a name and a number of arguments
abbrev pub same_predicate : Signature → Signature → Bool
same_predicate a b = (if a.negative then b.negative else not b.negative) && (bytes_eq a.name b.name && (a.arity == b.arity))

abbrev pub predicate_of : Atom → Signature
predicate_of atom = record { negative = atom.negative; name = atom.name; arity = length atom.args }

-- a tuple of a fact is an atom of its own
abbrev pub tuple_predicate : Fact → List Arg → Signature
tuple_predicate fact tuple = record { negative = fact.negative; name = fact.name; arity = length tuple }

-- the predicates that a statement has as head
abbrev pub head_predicates : Kind → List Signature
head_predicates (kinds.Rule (heads.Normal atom) body) = predicate_of atom ∷ []
head_predicates (kinds.Rule (heads.Choice atom) body) = predicate_of atom ∷ []
head_predicates (kinds.Rule heads.None body) = []
head_predicates (kinds.Facts fact) = map (tuple_predicate fact) fact.tuples
head_predicates (kinds.Const name value) = []
head_predicates (kinds.Show shown) = []

abbrev pub has_head : Signature → Statement → Bool
has_head predicate statement = list_any (same_predicate predicate) (head_predicates statement.kind)

-- ---- which predicates are tables

-- a fact; `p :- .` is a rule
abbrev pub is_fact : Kind → Bool
is_fact (kinds.Facts fact) = true
is_fact (kinds.Rule head body) = false
is_fact (kinds.Const name value) = false
is_fact (kinds.Show shown) = false

abbrev pub is_unprimed_fact : Kind → Bool
is_unprimed_fact (kinds.Facts fact) = (fact.before == 0) && (fact.after == 0)
is_unprimed_fact (kinds.Rule head body) = false
is_unprimed_fact (kinds.Const name value) = false
is_unprimed_fact (kinds.Show shown) = false

abbrev pub is_always : Part → Bool
is_always parts.Always = true
is_always parts.Initial = false
is_always parts.Dynamic = false
is_always parts.Final = false

-- a fact without variables and without a prime in an always part
abbrev pub gives_rows : Statement → Bool
gives_rows statement = is_unprimed_fact statement.kind && (is_always statement.part && (length statement.vars == 0))

-- the head of at least one fact, and each statement that has it as head gives rows
abbrev pub is_table : List Statement → Signature → Bool
is_table statements predicate =
    list_any (λ (statement : Statement). is_fact statement.kind && has_head predicate statement) statements
    && list_all (λ (statement : Statement). not (has_head predicate statement) || gives_rows statement) statements

-- ---- rows

-- so many whole numbers, from one on
abbrev pub numbers_from : ℤ → ℕ → List Value
numbers_from low count = map (λ (k : ℕ). values.Num (low +ℤ pos k)) (range_with_len 0 count)

-- how many numbers a range has whose ends are so far apart
abbrev pub count_of : ℤ → ℕ
count_of (pos n) = n + 1
count_of (negsuc n) = 0

-- the whole numbers from one to another, rising; none where the first is greater
abbrev pub numbers_between : ℤ → ℤ → List Value
numbers_between low high = numbers_from low (count_of (high -ℤ low))

-- a range has values where its ends are numbers
abbrev pub range_values : Valued → Valued → List Value
range_values (Ok (values.Num low)) (Ok (values.Num high)) = numbers_between low high
range_values low high = []

abbrev pub one_value : Valued → List Value
one_value (Ok value) = value ∷ []
one_value (Err fault) = []

-- the values of an argument of a fact; an argument without a value has none
abbrev pub arg_values : Arg → List Value
arg_values (args.One expr) = one_value (expr_value [] expr)
arg_values (args.Range low high) = range_values (expr_value [] low) (expr_value [] high)

-- one of each, the first slowest
abbrev pub choices : List (List Value) → List (List Value)
choices [] = [] ∷ []
choices (here ∷ more) = flat_map (λ (value : Value). map (λ (row : List Value). value ∷ row) (choices more)) here

-- the argument lists that a tuple stands for
abbrev pub tuple_rows : List Arg → List (List Value)
tuple_rows tuple = choices (map arg_values tuple)

-- the argument lists of this predicate that a statement states as a fact
abbrev pub fact_rows : Signature → Kind → List (List Value)
fact_rows predicate (kinds.Facts fact) =
    flat_map (λ (tuple : List Arg). if same_predicate predicate (tuple_predicate fact tuple) then tuple_rows tuple else []) fact.tuples
fact_rows predicate (kinds.Rule head body) = []
fact_rows predicate (kinds.Const name value) = []
fact_rows predicate (kinds.Show shown) = []

-- the rows of a table, in the order of the facts, each as often as it is stated
abbrev pub stated_rows : List Statement → Signature → List (List Value)
stated_rows statements predicate = flat_map (λ (statement : Statement). fact_rows predicate statement.kind) statements

-- the values are a row of the table
abbrev pub is_row : List Statement → Signature → List Value → Bool
is_row statements predicate row = list_any (values_eq row) (stated_rows statements predicate)
