-- A statement has variables of its own, so that those of the one before make no difference.
use Rattle.std.proofs.Common.{◌≡◌, ℕ, zero, suc, Bool, true, false, List, ◌∷◌, length, refl, sym, ap, ◌∙◌}
use Rattle.std.specs.Prelude.{◌≢◌}
use Rattle.tel_base.specs.declared.places.Place.{Place}
use Rattle.formula_syntax.specs.Points.{Point, Read}
use Rattle.grammar_laws.specs.Points.{at, begins}
use Rattle.grammar_laws.specs.Steps.{Got, Stuck, and_then, map_read, at_most, each}
use Rattle.formula_syntax.specs.declared.reading.Stop.{Stop}
use Rattle.formula_syntax.specs.declared.reading.Stop.TheVariants as stops
use Rattle.formula_syntax.specs.Given.{why_of}
use Rattle.part_syntax.specs.Grammar.{Item, Stated, afresh}
use Rattle.part_syntax.specs.Reading.{read_item, read_stated, read_text, starts_item, noted, place_at}
use Rattle.part_syntax.specs.Given.{forgotten, fresh_stated}

pub stated_stop : (n : ℕ) (from fresh to : Point) (stop : Stop) → fresh ≡ at (afresh from.known) from.words → (stop ≢ stops.Memory → read_item n fresh ≡ Stuck (why_of stop) to.words) → stop ≢ stops.Memory → fresh_stated n from ≡ Stuck (why_of stop) to.words
stated_stop n from fresh to stop is one other =
    ap (λ (x : Read Item). forgotten (noted (place_at from.words) x)) (ap (read_item n) (sym is) ∙ one other)

pub stated_got : (n : ℕ) (from fresh to new : Point) (item : Item) (place : Place) (vars : List (List ℕ)) → fresh ≡ at (afresh from.known) from.words → place ≡ place_at fresh.words → read_item n fresh ≡ Got item to → vars ≡ to.known.vars → new ≡ at (afresh to.known) to.words → fresh_stated n from ≡ Got (record { place = place; vars = vars; item = item }) new
stated_got n from fresh to new item place vars is first read seen end =
    let p : place ≡ place_at from.words = first ∙ ap (λ (q : Point). place_at q.words) is in
    rw (p, seen, end) (ap (λ (x : Read Item). forgotten (noted (place_at from.words) x)) (ap (read_item n) (sym is) ∙ read))

-- the same point, with no variables
abbrev pub cleared : Point → Point
cleared from = at (afresh from.known) from.words

-- a list that is read with no variables, from its first thing on
with_one : (one : Stated) (out other : Read (List Stated)) → forgotten out ≡ forgotten other → forgotten (map_read (λ (more : List Stated). one ∷ more) out) ≡ forgotten (map_read (λ (more : List Stated). one ∷ more) other)
with_one one (Got more to) (Got others to') is =
    let a : more ≡ others = cc in
    let b : cleared to ≡ cleared to' = cc in
    ap (λ (xs : List Stated). Got (one ∷ xs) (cleared to)) a ∙ ap (λ (p : Point). Got (one ∷ others) p) b
with_one one (Got more to) (Stuck why rest) is = absurd cc
with_one one (Stuck why rest) (Got more to) is = absurd cc
with_one one (Stuck why rest) (Stuck why' rest') is = let a : why ≡ why' = cc in let b : rest ≡ rest' = cc in rw (a, b) refl

module _ (n : ℕ) where
  round_one : ℕ → Read Stated → Read (List Stated)
  round_one most out = and_then out (λ (one : Stated) (to : Point). map_read (λ (more : List Stated). one ∷ more) (at_most most starts_item (fresh_stated n) to))

  round_two : ℕ → Read Stated → Read (List Stated)
  round_two most out = and_then out (λ (one : Stated) (to : Point). map_read (λ (more : List Stated). one ∷ more) (at_most most starts_item (read_stated n) to))

  fresh_same_by : (most : ℕ) (from : Point) (b : Bool) → begins starts_item from.words ≡ b → forgotten (at_most (suc most) starts_item (fresh_stated n) from) ≡ forgotten (at_most (suc most) starts_item (fresh_stated n) (cleared from))
  fresh_same_by most from true is = rw is refl
  fresh_same_by most from false is = rw is refl

  fresh_same : (most : ℕ) (from : Point) → forgotten (at_most most starts_item (fresh_stated n) from) ≡ forgotten (at_most most starts_item (fresh_stated n) (cleared from))
  fresh_same zero from = refl
  fresh_same (suc most) from = fresh_same_by most from (begins starts_item from.words) refl

  turn : (most : ℕ) (out : Read Stated) → ((from : Point) → forgotten (at_most most starts_item (read_stated n) from) ≡ forgotten (at_most most starts_item (fresh_stated n) from)) → forgotten (round_two most out) ≡ forgotten (round_one most (forgotten out))
  unfolding round_one round_two
  turn most (Got one to) same =
      with_one one (at_most most starts_item (read_stated n) to) (at_most most starts_item (fresh_stated n) (cleared to)) (same to ∙ fresh_same most to)
  turn most (Stuck why rest) same = refl

  texts_by : (most : ℕ) (from : Point) (b : Bool) → begins starts_item from.words ≡ b → ((from : Point) → forgotten (at_most most starts_item (read_stated n) from) ≡ forgotten (at_most most starts_item (fresh_stated n) from)) → forgotten (at_most (suc most) starts_item (read_stated n) from) ≡ forgotten (at_most (suc most) starts_item (fresh_stated n) from)
  unfolding round_one round_two
  texts_by most from true is same = rw is (turn most (read_stated n from) same)
  texts_by most from false is same = rw is refl

  texts_same : (most : ℕ) (from : Point) → forgotten (at_most most starts_item (read_stated n) from) ≡ forgotten (at_most most starts_item (fresh_stated n) from)
  texts_same zero from = refl
  texts_same (suc most) from = texts_by most from (begins starts_item from.words) refl (texts_same most)

  -- the items of a text, whether the variables of each are forgotten behind it or not
  pub fresh_text : (from : Point) → forgotten (read_text n from) ≡ forgotten (each starts_item (fresh_stated n) from)
  fresh_text from = texts_same (length from.words) from
