-- The order of bindings.
use Rattle.std.proofs.Common.{◌≡◌, true, ◌==◌, List, [], ◌∷◌, length, refl, sym, ap, ◌∙◌, subst}
use Rattle.std.specs.List.{list_all}
use Rattle.std.specs.Ordering.{ordering_then}
use Rattle.std.specs.Cmp.Lexicographic.{slice_cmp, lists_total}
use Rattle.std.specs.declared.cmp.Ordering.{Ordering}
use Rattle.std.specs.declared.cmp.Ordering.TheVariants.{Less, Equal, Greater}
use Rattle.std.proofs.lemmas.Bool.{and_parts}
use Rattle.std.proofs.lemmas.Cmp.{tied_itself}
use Rattle.tel_term.specs.declared.terms.Term.{Term}
use Rattle.tel_term.specs.declared.terms.Value.{Value}
use Rattle.tel_term.specs.declared.terms.Value.TheVariants as values
use Rattle.tel_term.specs.Symbols.{IsTable}
use Rattle.tel_term.specs.Order.{value_cmp, value_in_range}
use Rattle.tel_term.proofs.Ordered.{values-total, values-level}
use Rattle.live_instances.specs.Bindings.{is_value, binding_cmp}
use Rattle.live_instances.specs.Laws.{BindingsAreOrdered, LevelBindingsAreOne}

pub bindings-total : BindingsAreOrdered
bindings-total symbols = lists_total (values-total symbols)

-- a term of the program is a value of its table
value-known : (symbols : List Term) (value : Value) → is_value symbols value ≡ true → value_in_range symbols value ≡ true
value-known symbols (values.Num number) is = refl
value-known symbols (values.Sym number) is = is

first_level : (a b : Ordering) → ordering_then a b ≡ Equal → a ≡ Equal
first_level Less b is = is
first_level Equal b is = refl
first_level Greater b is = is

rest_level : (a b : Ordering) → a ≡ Equal → ordering_then a b ≡ Equal → b ≡ Equal
rest_level a b same is = sym (ap (λ (o : Ordering). ordering_then o b) same) ∙ is

pub level_one : (symbols : List Term) (a b : List Value) → IsTable symbols → list_all (is_value symbols) a ≡ true → list_all (is_value symbols) b ≡ true → binding_cmp symbols a b ≡ Equal → a ≡ b
level_one symbols [] [] table all_a all_b level = refl
level_one symbols [] (y ∷ ys) table all_a all_b level = absurd (cc)
level_one symbols (x ∷ xs) [] table all_a all_b level = absurd (cc)
level_one symbols (x ∷ xs) (y ∷ ys) table all_a all_b level =
    let here_a = and_parts (is_value symbols x) (list_all (is_value symbols) xs) all_a in
    let here_b = and_parts (is_value symbols y) (list_all (is_value symbols) ys) all_b in
    let first = first_level (value_cmp symbols x y) (slice_cmp (value_cmp symbols) xs ys) level in
    let rest = rest_level (value_cmp symbols x y) (slice_cmp (value_cmp symbols) xs ys) first level in
    let head = (values-level symbols x y table (value-known symbols x here_a.0) (value-known symbols y here_b.0)).0 first in
    let tail = level_one symbols xs ys table here_a.1 here_b.1 rest in
    λ i. head i ∷ tail i

pub bindings-level : LevelBindingsAreOne
bindings-level symbols count a b table is_a is_b =
    let all_a = and_parts (length a == count) (list_all (is_value symbols) a) is_a in
    let all_b = and_parts (length b == count) (list_all (is_value symbols) b) is_b in
    (level_one symbols a b table all_a.1 all_b.1, λ same. subst (λ (x : List Value). binding_cmp symbols a x ≡ Equal) same (tied_itself (bindings-total symbols) a))
