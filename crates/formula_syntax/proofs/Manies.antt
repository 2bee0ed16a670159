-- Chains of formulas, and unary formulas, by how they begin.
use Rattle.std.proofs.Common.{◌≡◌, ℕ, zero, suc, Bool, true, false, List, [], ◌∷◌, ◌++◌, length, Option, refl, sym, ap, ◌∙◌}
use Rattle.std.specs.Prelude.{◌≢◌}
use Rattle.std.proofs.lemmas.Bool.{false≢true}
use Rattle.tel_rule.specs.declared.formulas.Formula.{Formula}
use Rattle.tel_rule.specs.declared.formulas.Formula.TheVariants as formulas
use Rattle.tel_rule.specs.declared.formulas.ManyOp.{ManyOp}
use Rattle.formula_syntax.specs.Points.{Word, Known, Point, Read, Reader}
use Rattle.grammar_laws.specs.Points.{at, begins}
use Rattle.grammar_laws.specs.Steps.{Got, Stuck, and_then, map_read, made, one, both, either, at_most, each, too_deep, passes}
use Rattle.formula_syntax.specs.Grammar.{behind_all, many_of, prefix_op}
use Rattle.formula_syntax.specs.Reading.{starts_flat, opens_unary, read_flat, read_unary, read_formula, read_prefixed, read_bracketed}
use Rattle.formula_syntax.specs.declared.reading.Stop.{Stop}
use Rattle.formula_syntax.specs.declared.reading.Stop.TheVariants as stops
use Rattle.formula_syntax.specs.Given.{why_of}
use Rattle.grammar_laws.proofs.Readers.{map-got, map-stuck, then-got, at_most-more, at_most-end, either-got}
use Rattle.formula_syntax.proofs.Gathers.{gathered}

-- a chain that begins has a thing
record SomeThings {A : Type 0} (things : List A) : Type 0 where
  first : A
  more : List A
  is : things ≡ first ∷ more

each_some : {A : Type 0} (test : Word → Bool) (read : Reader A) (known : Known) (words : List Word) (things : List A) (to : Point) → begins test words ≡ true → each test read (at known words) ≡ Got things to → SomeThings things
each_some test read known [] things to begun is = absurd (false≢true begun)
each_some {A = A} test read known (word ∷ words) things to begun is =
    let t = then-got (read (at known (word ∷ words))) (λ (thing : A) (p : Point). map_read (λ (xs : List A). thing ∷ xs) (at_most (length words) test read p)) things to (sym (at_most-more (length words) test read (at known (word ∷ words)) begun) ∙ is) in
    let m = map-got (λ (xs : List A). t.of ∷ xs) (at_most (length words) test read t.middle) things to t.two_is in
    record { first = t.of; more = m.of; is = m.thing_is }

module _ {A : Type 0} (op : ManyOp) (value : Word → Option (Known → A × Known)) (read : Reader Formula) where
  abbrev more_of : Reader (List (A × Formula))
  more_of = each (passes value) (both (one value) read)

  chain_from : (from middle : Point) (first : Formula) → read from ≡ Got first middle → made (many_of op) (both read more_of) from ≡ map_read (many_of op) (map_read (λ (xs : List (A × Formula)). (first, xs)) (more_of middle))
  chain_from from middle first is = ap (λ (x : Read Formula). map_read (many_of op) (and_then x (λ (a : Formula) (to : Point). map_read (λ (xs : List (A × Formula)). (a, xs)) (more_of to)))) is

  pub many_none : (from middle : Point) (first : Formula) → read from ≡ Got first middle → begins (passes value) middle.words ≡ false → made (many_of op) (both read more_of) from ≡ Got first middle
  many_none from middle first is ends =
      chain_from from middle first is
      ∙ ap (λ (x : Read (List (A × Formula))). map_read (many_of op) (map_read (λ (xs : List (A × Formula)). (first, xs)) x)) (at_most-end (length middle.words) (passes value) (both (one value) read) middle ends)

  many_things : (first : Formula) (things : List (A × Formula)) → SomeThings things → many_of op (first, things) ≡ formulas.Many op (first ∷ behind_all things)
  many_things first things s =
      ap (λ (xs : List (A × Formula)). many_of op (first, xs)) s.is ∙ ap (λ (xs : List (A × Formula)). formulas.Many op (first ∷ behind_all xs)) (sym s.is)

  pub many_some : (from middle to : Point) (first : Formula) (done all : List Formula) → read from ≡ Got first middle → begins (passes value) middle.words ≡ true → done ≡ first ∷ [] → gathered done (more_of middle) ≡ Got all to → made (many_of op) (both read more_of) from ≡ Got (formulas.Many op all) to
  many_some from middle to first done all is begun pushed rest =
      let m = map-got (λ (xs : List (A × Formula)). (first ∷ []) ++ behind_all xs) (more_of middle) all to (ap (λ (xs : List Formula). gathered xs (more_of middle)) (sym pushed) ∙ rest) in
      let s = each_some (passes value) (both (one value) read) middle.known middle.words m.of to begun m.one_is in
      chain_from from middle first is
      ∙ ap (λ (x : Read (List (A × Formula))). map_read (many_of op) (map_read (λ (xs : List (A × Formula)). (first, xs)) x)) m.one_is
      ∙ ap (λ (f : Formula). Got f to) (many_things first m.of s ∙ ap (formulas.Many op) (sym m.thing_is))

  pub many_stuck : (from middle to : Point) (first : Formula) (done : List Formula) (stop : Stop) → read from ≡ Got first middle → done ≡ first ∷ [] → (stop ≢ stops.Memory → gathered done (more_of middle) ≡ Stuck (why_of stop) to.words) → stop ≢ stops.Memory → made (many_of op) (both read more_of) from ≡ Stuck (why_of stop) to.words
  many_stuck from middle to first done stop is pushed rest other =
      chain_from from middle first is
      ∙ ap (λ (x : Read (List (A × Formula))). map_read (many_of op) (map_read (λ (xs : List (A × Formula)). (first, xs)) x))
      (map-stuck (λ (xs : List (A × Formula)). (first ∷ []) ++ behind_all xs) (more_of middle) (why_of stop) to.words (ap (λ (xs : List Formula). gathered xs (more_of middle)) (sym pushed) ∙ rest other))

-- ---- unary formulas

abbrev nested : ℕ → Reader Formula
nested levels = either (passes prefix_op) (read_prefixed (read_unary levels)) (read_bracketed (read_formula levels))

unary_zero : (from : Point) → read_unary zero from ≡ either starts_flat (read_flat zero) (too_deep opens_unary) from
unfolding read_unary
unary_zero from = refl

unary_suc : (levels : ℕ) (from : Point) → read_unary (suc levels) from ≡ either starts_flat (read_flat (suc levels)) (nested levels) from
unfolding read_unary
unary_suc levels from = refl

pub unary_flat : (levels : ℕ) (from : Point) → begins starts_flat from.words ≡ true → read_unary levels from ≡ read_flat levels from
unary_flat zero from begun = unary_zero from ∙ either-got starts_flat (read_flat zero) (too_deep opens_unary) from true begun
unary_flat (suc levels) from begun = unary_suc levels from ∙ either-got starts_flat (read_flat (suc levels)) (nested levels) from true begun

pub unary_shut : (levels : ℕ) (from : Point) → levels ≡ 0 → begins starts_flat from.words ≡ false → read_unary levels from ≡ too_deep opens_unary from
unary_shut levels from none ends = ap (λ (n : ℕ). read_unary n from) none ∙ unary_zero from ∙ either-got starts_flat (read_flat zero) (too_deep opens_unary) from false ends

pub unary_nested : (levels n : ℕ) (from : Point) → levels ≡ suc n → begins starts_flat from.words ≡ false → read_unary levels from ≡ nested n from
unary_nested levels n from more ends = ap (λ (k : ℕ). read_unary k from) more ∙ unary_suc n from ∙ either-got starts_flat (read_flat (suc n)) (nested n) from false ends
