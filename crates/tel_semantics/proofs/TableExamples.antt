-- Which predicates of small programs are tables, and their rows, worked out by hand.
use Rattle.std.proofs.Common.{◌≡◌, ℕ, ℤ, pos, negsuc, Bool, true, false, List, [], ◌∷◌, Ok, Err, refl, sym, ap, ◌∙◌}
use Rattle.tel_base.specs.declared.places.Place.{Place}
use Rattle.tel_term.specs.declared.terms.Value.{Value}
use Rattle.tel_term.specs.declared.terms.Value.TheVariants as values
use Rattle.tel_term.specs.declared.arithmetic.EvalFault.TheVariants.{Undefined}
use Rattle.tel_term.specs.declared.exprs.Expr.{Expr}
use Rattle.tel_term.specs.declared.exprs.Expr.TheVariants as exprs
use Rattle.tel_term.specs.declared.exprs.Expr.TheVariants.{rolls-Value}
use Rattle.tel_term.specs.declared.exprs.Expr.TheOpen as layers
use Rattle.tel_term.specs.declared.exprs.Expr.TheFolds.{fold-roll-Expr}
use Rattle.tel_term.specs.Arithmetic.{Valued, layer_value, expr_value}
use Rattle.tel_rule.specs.declared.parts.Part.{Part}
use Rattle.tel_rule.specs.declared.parts.Part.TheVariants as parts
use Rattle.tel_rule.specs.declared.formulas.Atom.{Atom}
use Rattle.tel_rule.specs.declared.statements.Head.TheVariants as heads
use Rattle.tel_rule.specs.declared.statements.Arg.{Arg}
use Rattle.tel_rule.specs.declared.statements.Arg.TheVariants as args
use Rattle.tel_rule.specs.declared.statements.Literal.{Literal}
use Rattle.tel_rule.specs.declared.statements.Signature.{Signature}
use Rattle.tel_rule.specs.declared.statements.Kind.{Kind}
use Rattle.tel_rule.specs.declared.statements.Kind.TheVariants as kinds
use Rattle.tel_rule.specs.declared.statements.Statement.{Statement}
use Rattle.tel_semantics.specs.Tables.{is_table, range_values, one_value, choices, tuple_rows, stated_rows, is_row}

-- the names p and q
abbrev p : List ℕ
p = 112 ∷ []

abbrev q : List ℕ
q = 113 ∷ []

abbrev number : ℕ → Expr
number n = exprs.Value (values.Num (pos n))

-- a value is its own value
given : (value : Value) → expr_value [] (exprs.Value value) ≡ Ok value
given value = ap (expr_value []) (sym (rolls-Value value)) ∙ fold-roll-Expr Valued (layer_value []) (layers.Value value)

one : expr_value [] (number 1) ≡ Ok (values.Num (pos 1))
one = given (values.Num (pos 1))

two : expr_value [] (number 2) ≡ Ok (values.Num (pos 2))
two = given (values.Num (pos 2))

three : expr_value [] (number 3) ≡ Ok (values.Num (pos 3))
three = given (values.Num (pos 3))

abbrev atom : List ℕ → List Expr → Atom
atom name list = record { negative = false; before = 0; name = name; after = 0; args = list }

abbrev predicate : List ℕ → ℕ → Signature
predicate name arity = record { negative = false; name = name; arity = arity }

abbrev statement : Part → List (List ℕ) → Kind → Statement
statement part vars kind = record { place = record { file = 1; line = 1; at = 1 }; part = part; vars = vars; kind = kind }

abbrev fact : List ℕ → List (List Arg) → Kind
fact name tuples = kinds.Facts (record { negative = false; before = 0; name = name; after = 0; tuples = tuples })

-- p(2). p(1). p(2).
abbrev in_always : List Statement
in_always =
    statement parts.Always [] (fact p ((args.One (number 2) ∷ []) ∷ []))
    ∷ statement parts.Always [] (fact p ((args.One (number 1) ∷ []) ∷ []))
    ∷ statement parts.Always [] (fact p ((args.One (number 2) ∷ []) ∷ []))
    ∷ []

facts-make-table : is_table in_always (predicate p 1) ≡ true
facts-make-table = refl

other-arity-is-none : is_table in_always (predicate p 2) ≡ false
other-arity-is-none = refl

negative-is-none : is_table in_always (record { negative = true; name = p; arity = 1 }) ≡ false
negative-is-none = refl

rows-in-order : stated_rows in_always (predicate p 1) ≡ (values.Num (pos 2) ∷ []) ∷ (values.Num (pos 1) ∷ []) ∷ (values.Num (pos 2) ∷ []) ∷ []
rows-in-order = rw two (rw one refl)

is-one : is_row in_always (predicate p 1) (values.Num (pos 1) ∷ []) ≡ true
is-one = rw two (rw one refl)

is-none : is_row in_always (predicate p 1) (values.Num (pos 3) ∷ []) ≡ false
is-none = rw two (rw one refl)

-- a fact in a part other than always spoils its predicate, and no other one
elsewhere : is_table (statement parts.Dynamic [] (fact q ([] ∷ [])) ∷ in_always) (predicate q 0) ≡ false
elsewhere = refl

other-stays : is_table (statement parts.Dynamic [] (fact q ([] ∷ [])) ∷ in_always) (predicate p 1) ≡ true
other-stays = refl

here-and-elsewhere : is_table (statement parts.Initial [] (fact p ((args.One (number 7) ∷ []) ∷ [])) ∷ in_always) (predicate p 1) ≡ false
here-and-elsewhere = refl

-- so does a rule with this head, as p(1) :- . is one
rule-spoils : is_table (statement parts.Always [] (kinds.Rule (heads.Normal (atom p (number 1 ∷ []))) []) ∷ in_always) (predicate p 1) ≡ false
rule-spoils = refl

choice-spoils : is_table (statement parts.Always [] (kinds.Rule (heads.Choice (atom p (number 1 ∷ []))) []) ∷ in_always) (predicate p 1) ≡ false
choice-spoils = refl

constraint-spoils-none : is_table (statement parts.Always [] (kinds.Rule heads.None []) ∷ in_always) (predicate p 1) ≡ true
constraint-spoils-none = refl

-- a rule alone makes no table
rule-makes-none : is_table (statement parts.Always [] (kinds.Rule (heads.Normal (atom q [])) []) ∷ []) (predicate q 0) ≡ false
rule-makes-none = refl

-- nor does a fact with a variable, or with a prime
variable-spoils : is_table (statement parts.Always ((88 ∷ []) ∷ []) (fact p ((args.One (exprs.Var 0) ∷ []) ∷ [])) ∷ in_always) (predicate p 1) ≡ false
variable-spoils = refl

prime-spoils : is_table (statement parts.Always [] (kinds.Facts (record { negative = false; before = 0; name = p; after = 1; tuples = (args.One (number 1) ∷ []) ∷ [] })) ∷ in_always) (predicate p 1) ≡ false
prime-spoils = refl

-- p(1; 2, 3). has two predicates
tuples-are-apart : is_table (statement parts.Always [] (fact p ((args.One (number 1) ∷ []) ∷ (args.One (number 2) ∷ args.One (number 3) ∷ []) ∷ [])) ∷ []) (predicate p 2) ≡ true
tuples-are-apart = refl

rows-of-two : stated_rows (statement parts.Always [] (fact p ((args.One (number 1) ∷ []) ∷ (args.One (number 2) ∷ args.One (number 3) ∷ []) ∷ [])) ∷ []) (predicate p 2) ≡ (values.Num (pos 2) ∷ values.Num (pos 3) ∷ []) ∷ []
rows-of-two = rw two (rw three refl)

-- the tuple 1..2, a, 7..8: the first argument is slowest
ranges : choices (range_values (Ok (values.Num (pos 1))) (Ok (values.Num (pos 2))) ∷ one_value (Ok (values.Sym 0)) ∷ range_values (Ok (values.Num (pos 7))) (Ok (values.Num (pos 8))) ∷ [])
    ≡ (values.Num (pos 1) ∷ values.Sym 0 ∷ values.Num (pos 7) ∷ [])
    ∷ (values.Num (pos 1) ∷ values.Sym 0 ∷ values.Num (pos 8) ∷ [])
    ∷ (values.Num (pos 2) ∷ values.Sym 0 ∷ values.Num (pos 7) ∷ [])
    ∷ (values.Num (pos 2) ∷ values.Sym 0 ∷ values.Num (pos 8) ∷ [])
    ∷ []
ranges = refl

-- the range from -1 to 1
below-zero : range_values (Ok (values.Num (negsuc 0))) (Ok (values.Num (pos 1))) ≡ values.Num (negsuc 0) ∷ values.Num (pos 0) ∷ values.Num (pos 1) ∷ []
below-zero = refl

single : range_values (Ok (values.Num (pos 4))) (Ok (values.Num (pos 4))) ≡ values.Num (pos 4) ∷ []
single = refl

-- an argument without a value leaves no row
falling : choices (range_values (Ok (values.Num (pos 5))) (Ok (values.Num (pos 4))) ∷ one_value (Ok (values.Num (pos 1))) ∷ []) ≡ []
falling = refl

named-end : range_values (Ok (values.Num (pos 5))) (Ok (values.Sym 0)) ≡ []
named-end = refl

undefined : choices (one_value (Ok (values.Num (pos 1))) ∷ one_value (Err Undefined) ∷ []) ≡ []
undefined = refl

range-of-ones : tuple_rows (args.Range (number 1) (number 2) ∷ []) ≡ (values.Num (pos 1) ∷ []) ∷ (values.Num (pos 2) ∷ []) ∷ []
range-of-ones = rw one (rw two refl)

-- p. has one row, which is empty
no-arguments : stated_rows (statement parts.Always [] (fact q ([] ∷ [])) ∷ []) (predicate q 0) ≡ [] ∷ []
no-arguments = refl
