-- Things that are read where they stand, and what is read elsewhere.
use Rattle.formula_syntax.specs.declared.marks.Mark.TheVariants as marks
use Rattle.std.proofs.Common.{◌≡◌, ℕ, zero, suc, Bool, true, false, Option, Some, None, refl, sym, ap, ◌∙◌, inl, inr}
use Rattle.std.proofs.lemmas.Bool.{cases_Bool}
use Rattle.tel_term.specs.declared.exprs.Expr.{Expr}
use Rattle.formula_syntax.specs.Points.{Word, Point, Read, Reader}
use Rattle.grammar_laws.specs.Points.{begins}
use Rattle.grammar_laws.specs.Steps.{Got, map_read, one, either, maybe, too_deep, passes}
use Rattle.formula_syntax.specs.Grammar.{leaf, sign}
use Rattle.formula_syntax.specs.Reading.{read_value, read_expr, read_negative, read_bracketed, opens_value}
use Rattle.grammar_laws.proofs.Readers.{map-got, either-got}

maybe_is : {A : Type 0} (test : Word → Bool) (read : Reader A) (from : Point) (b : Bool) → begins test from.words ≡ b → maybe test read from ≡ (elim b as (λ x. Read (Option A)) [ true ↦ map_read Some (read from) | false ↦ Got None from ])
maybe_is test read from true is = rw is refl
maybe_is test read from false is = rw is refl

-- what is there is the first of two
pub maybe_some : {A : Type 0} (test : Word → Bool) (read second : Reader A) (from to : Point) (thing : A) → maybe test read from ≡ Got (Some thing) to → either test read second from ≡ Got thing to
maybe_some {A = A} test read second from to thing is =
    elim (cases_Bool (begins test from.words)) [
      | inl e ↦
          let m = map-got (λ (x : A). Some x) (read from) (Some thing) to (sym (maybe_is test read from true e) ∙ is) in
          let same : m.of ≡ thing = cc m.thing_is in
          either-got test read second from true e ∙ m.one_is ∙ ap (λ (x : A). Got x to) same
      | inr e ↦ let g : Got None from ≡ Got (Some thing) to = sym (maybe_is test read from false e) ∙ is in absurd cc
    ]

-- where nothing is there, it is the second
pub maybe_none : {A : Type 0} (test : Word → Bool) (read second : Reader A) (from to : Point) → maybe test read from ≡ Got None to → either test read second from ≡ second to
maybe_none {A = A} test read second from to is =
    elim (cases_Bool (begins test from.words)) [
      | inl e ↦ let m = map-got (λ (x : A). Some x) (read from) None to (sym (maybe_is test read from true e) ∙ is) in absurd (cc m.thing_is)
      | inr e ↦
          let g : Got None from ≡ Got None to = sym (maybe_is test read from false e) ∙ is in
          let same : from ≡ to = cc in
          either-got test read second from false e ∙ ap second same
    ]

-- ---- values

abbrev nested : ℕ → Reader Expr
nested levels = either (passes (sign marks.Minus)) (read_negative (read_value levels)) (read_bracketed (read_expr levels))

value_zero : (from : Point) → read_value zero from ≡ either (passes leaf) (one leaf) (too_deep opens_value) from
unfolding read_value
value_zero from = refl

value_suc : (levels : ℕ) (from : Point) → read_value (suc levels) from ≡ either (passes leaf) (one leaf) (nested levels) from
unfolding read_value
value_suc levels from = refl

pub value_leaf : (levels : ℕ) (from to : Point) (thing : Expr) → maybe (passes leaf) (one leaf) from ≡ Got (Some thing) to → read_value levels from ≡ Got thing to
value_leaf zero from to thing is = value_zero from ∙ maybe_some (passes leaf) (one leaf) (too_deep opens_value) from to thing is
value_leaf (suc levels) from to thing is = value_suc levels from ∙ maybe_some (passes leaf) (one leaf) (nested levels) from to thing is

pub value_shut : (levels : ℕ) (from to : Point) (out : Read Expr) → levels ≡ 0 → maybe (passes leaf) (one leaf) from ≡ Got None to → too_deep opens_value to ≡ out → read_value levels from ≡ out
value_shut levels from to out none is shut = ap (λ (n : ℕ). read_value n from) none ∙ value_zero from ∙ maybe_none (passes leaf) (one leaf) (too_deep opens_value) from to is ∙ shut

pub value_nested : (levels n : ℕ) (from to : Point) → levels ≡ suc n → maybe (passes leaf) (one leaf) from ≡ Got None to → read_value levels from ≡ nested n to
value_nested levels n from to more is = ap (λ (k : ℕ). read_value k from) more ∙ value_suc n from ∙ maybe_none (passes leaf) (one leaf) (nested n) from to is
