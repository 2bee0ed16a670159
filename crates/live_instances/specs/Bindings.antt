-- Bindings of the variables of a statement, and their order.
use Rattle.std.specs.Prelude.{ℕ, Bool, ◌&&◌, ◌==◌, List, length}
use Rattle.std.specs.List.{list_all}
use Rattle.std.specs.Ordering.{is_lt}
use Rattle.std.specs.Cmp.Lexicographic.{slice_cmp}
use Rattle.std.specs.declared.cmp.Ordering.{Ordering}
use Rattle.tel_term.specs.declared.terms.Term.{Term}
use Rattle.tel_term.specs.declared.terms.Value.{Value}
use Rattle.tel_term.specs.declared.terms.Value.TheVariants as values
use Rattle.tel_term.specs.Arithmetic.{is_held}
use Rattle.tel_term.specs.Order.{value_cmp, value_in_range}

-- a term of the program: a whole number in range, or a name or string that it has
abbrev pub is_value : List Term → Value → Bool
is_value symbols (values.Num number) = is_held number
is_value symbols (values.Sym number) = value_in_range symbols (values.Sym number)

-- a binding gives each of so many variables, in the order of their first occurrence, a term of the program
abbrev pub is_binding : List Term → ℕ → List Value → Bool
is_binding symbols count binding = (length binding == count) && list_all (is_value symbols) binding

-- bindings stand as the terms of their first variable that differs
abbrev pub binding_cmp : List Term → List Value → List Value → Ordering
binding_cmp symbols a b = slice_cmp (value_cmp symbols) a b

abbrev pub binding_lt : List Term → List Value → List Value → Bool
binding_lt symbols a b = is_lt (binding_cmp symbols a b)
