-- Things in a row, each behind a sign: those that were read, and what is read from there on.
use Rattle.std.proofs.Common.{◌≡◌, ℕ, suc, Bool, true, false, List, [], ◌∷◌, ◌++◌, length, refl, sym, ap, ◌∙◌, append_assoc}
use Rattle.std.specs.Prelude.{◌≢◌}
use Rattle.std.proofs.lemmas.List.{append-nil}
use Rattle.formula_syntax.specs.Points.{Word, Point, Read, Reader}
use Rattle.grammar_laws.specs.Points.{begins}
use Rattle.grammar_laws.specs.Steps.{Why, Got, Stuck, and_then, map_read, made, both, at_most, each}
use Rattle.grammar_laws.specs.Productions.{behind}
use Rattle.formula_syntax.specs.Grammar.{behind_all}
use Rattle.formula_syntax.specs.declared.reading.Stop.{Stop}
use Rattle.formula_syntax.specs.declared.reading.Stop.TheVariants as stops
use Rattle.formula_syntax.specs.Given.{why_of}
use Rattle.grammar_laws.proofs.Readers.{at_most-more, at_most-end}
use Rattle.part_syntax.specs.Grammar.{chain_of}

-- the things that were read, and behind them those that are still to be read
abbrev pub rows : {A B : Type 0} → List B → Read (List (A × B)) → Read (List B)
rows done out = map_read (λ more. done ++ behind_all more) out

rows_one : {A B : Type 0} (done : List B) (pair : A × B) (out : Read (List (A × B))) → rows done (map_read (λ (pairs : List (A × B)). pair ∷ pairs) out) ≡ rows (done ++ pair.1 ∷ []) out
rows_one {B = B} done pair (Got pairs to) = ap (λ (xs : List B). Got xs to) (sym (append_assoc done (pair.1 ∷ []) (behind_all pairs)))
rows_one done pair (Stuck why rest) = refl

rows_none : {A B : Type 0} (thing : B) (out : Read (List (A × B))) → map_read chain_of (map_read (λ (pairs : List (A × B)). (thing, pairs)) out) ≡ rows (thing ∷ []) out
rows_none thing (Got pairs to) = refl
rows_none thing (Stuck why rest) = refl

module _ {A B : Type 0} (test : Word → Bool) (step : Reader (A × B)) where
  abbrev pub steps : ℕ → Reader (List (A × B))
  steps most = at_most most test step

  -- what the step `out` gives is the next thing
  round_of : List B → ℕ → Read (A × B) → Read (List B)
  round_of done n out = rows done (and_then out (λ (pair : A × B) (to : Point). map_read (λ (pairs : List (A × B)). pair ∷ pairs) (steps n to)))

  rows_turn : (whole : Read (List B)) (done : List B) (from : Point) (left n : ℕ) → whole ≡ rows done (steps left from) → left ≡ suc n → begins test from.words ≡ true → whole ≡ round_of done n (step from)
  unfolding round_of
  rows_turn whole done from left n is next begun =
      is ∙ ap (λ (k : ℕ). rows done (steps k from)) next ∙ ap (rows done) (at_most-more n test step from begun)

  round_got : (done : List B) (n : ℕ) (out : Read (A × B)) (thing : B) (to : Point) → map_read behind out ≡ Got thing to → round_of done n out ≡ rows (done ++ thing ∷ []) (steps n to)
  unfolding round_of
  round_got done n (Got pair to') thing to is =
      let one : pair.1 ≡ thing = cc in
      let place : to' ≡ to = cc in
      rows_one done pair (steps n to') ∙ ap (λ (x : B). rows (done ++ x ∷ []) (steps n to')) one ∙ ap (λ (p : Point). rows (done ++ thing ∷ []) (steps n p)) place
  round_got done n (Stuck why rest) thing to is = absurd cc

  round_stuck : (done : List B) (n : ℕ) (out : Read (A × B)) (why : Why) (rest : List Word) → map_read behind out ≡ Stuck why rest → round_of done n out ≡ Stuck why rest
  unfolding round_of
  round_stuck done n (Got pair to') why rest is = absurd cc
  round_stuck done n (Stuck why' rest') why rest is = let a : why' ≡ why = cc in let b : rest' ≡ rest = cc in rw (a, b) refl

  pub rows_more : (whole : Read (List B)) (done next_done : List B) (from to : Point) (thing : B) (left n : ℕ) → whole ≡ rows done (steps left from) → left ≡ suc n → begins test from.words ≡ true → map_read behind (step from) ≡ Got thing to → next_done ≡ done ++ thing ∷ [] → whole ≡ rows next_done (steps n to)
  rows_more whole done next_done from to thing left n is next begun one pushed =
      rows_turn whole done from left n is next begun ∙ round_got done n (step from) thing to one ∙ ap (λ (xs : List B). rows xs (steps n to)) (sym pushed)

  pub rows_stuck : (whole : Read (List B)) (done : List B) (from : Point) (why : Why) (rest : List Word) (left n : ℕ) → whole ≡ rows done (steps left from) → left ≡ suc n → begins test from.words ≡ true → map_read behind (step from) ≡ Stuck why rest → whole ≡ Stuck why rest
  rows_stuck whole done from why rest left n is next begun one =
      rows_turn whole done from left n is next begun ∙ round_stuck done n (step from) why rest one

  pub rows_end : (whole : Read (List B)) (done : List B) (from : Point) (left : ℕ) → whole ≡ rows done (steps left from) → begins test from.words ≡ false → whole ≡ Got done from
  rows_end whole done from left is ends =
      is ∙ ap (rows done) (at_most-end left test step from ends) ∙ ap (λ (xs : List B). Got xs from) (append-nil done)

  pub rows_last : (whole : Read (List B)) (done : List B) (from : Point) (left : ℕ) → whole ≡ rows done (steps left from) → left ≡ 0 → whole ≡ Got done from
  rows_last whole done from left is none =
      is ∙ ap (λ (n : ℕ). rows done (steps n from)) none ∙ ap (λ (xs : List B). Got xs from) (append-nil done)

  pub rows_start : (first : Reader B) (from middle : Point) (thing : B) (done : List B) (most left : ℕ) → first from ≡ Got thing middle → done ≡ thing ∷ [] → left ≡ most → made chain_of (both first (at_most most test step)) from ≡ rows done (steps left middle)
  rows_start first from middle thing done most left is pushed all =
      ap (λ (x : Read B). map_read chain_of (and_then x (λ (a : B) (to : Point). map_read (λ (pairs : List (A × B)). (a, pairs)) (steps most to)))) is
      ∙ rows_none thing (steps most middle) ∙ ap (λ (n : ℕ). rows (thing ∷ []) (steps n middle)) (sym all) ∙ ap (λ (xs : List B). rows xs (steps left middle)) (sym pushed)

  pub rows_each : (first : Reader B) (from middle : Point) (thing : B) (done : List B) (most : ℕ) → first from ≡ Got thing middle → done ≡ thing ∷ [] → most ≡ length middle.words → made chain_of (both first (each test step)) from ≡ rows done (steps most middle)
  rows_each first from middle thing done most is pushed all =
      ap (λ (x : Read B). map_read chain_of (and_then x (λ (a : B) (to : Point). map_read (λ (pairs : List (A × B)). (a, pairs)) (each test step to)))) is
      ∙ rows_none thing (each test step middle) ∙ ap (λ (n : ℕ). rows (thing ∷ []) (steps n middle)) (sym all) ∙ ap (λ (xs : List B). rows xs (steps most middle)) (sym pushed)

  -- the same, where a reading in the code stops
  pub rows_stop : (whole : Read (List B)) (done : List B) (from to : Point) (stop : Stop) (left n : ℕ) → whole ≡ rows done (steps left from) → left ≡ suc n → begins test from.words ≡ true → (stop ≢ stops.Memory → map_read behind (step from) ≡ Stuck (why_of stop) to.words) → stop ≢ stops.Memory → whole ≡ Stuck (why_of stop) to.words
  rows_stop whole done from to stop left n is next begun one other = rows_stuck whole done from (why_of stop) to.words left n is next begun (one other)
