-- Tuples and the bracket behind them, read in two orders.
use Rattle.formula_syntax.specs.declared.marks.Mark.TheVariants as marks
use Rattle.std.proofs.Common.{◌≡◌, ℕ, List, refl, ap, ◌∙◌}
use Rattle.formula_syntax.specs.Points.{Point, Read, Reader}
use Rattle.grammar_laws.specs.Steps.{Got, Stuck, and_then, map_read, made, both, one, each, passes}
use Rattle.formula_syntax.specs.Grammar.{sign}
use Rattle.tel_rule.specs.declared.statements.Arg.{Arg}
use Rattle.part_syntax.specs.Grammar.{chain_of, tuples_of}
use Rattle.part_syntax.specs.Reading.{read_tuple, read_tuples}
use Rattle.grammar_laws.specs.Productions.{first_of}

module _ {A B C : Type 0} (end : Reader C) where
  abbrev pub row_of : B × (List (A × B) × C) → List B
  row_of read = chain_of (read.0, read.1.0)

  third : (a : B) (pairs : List (A × B)) (out : Read C) → map_read row_of (map_read (λ (b : List (A × B) × C). (a, b)) (map_read (λ (e : C). (pairs, e)) out)) ≡ map_read first_of (map_read (λ (e : C). (chain_of (a, pairs), e)) out)
  third a pairs (Got e to) = refl
  third a pairs (Stuck why rest) = refl

  second : (a : B) (out : Read (List (A × B))) →
      map_read row_of (map_read (λ (b : List (A × B) × C). (a, b)) (and_then out (λ (pairs : List (A × B)) (to : Point). map_read (λ (e : C). (pairs, e)) (end to))))
      ≡ map_read first_of (and_then (map_read chain_of (map_read (λ (pairs : List (A × B)). (a, pairs)) out)) (λ (row : List B) (to : Point). map_read (λ (e : C). (row, e)) (end to)))
  second a (Got pairs to) = third a pairs (end to)
  second a (Stuck why rest) = refl

  first : (more : Reader (List (A × B))) (out : Read B) →
      map_read row_of (and_then out (λ (a : B) (to : Point). map_read (λ (b : List (A × B) × C). (a, b)) (both more end to)))
      ≡ map_read first_of (and_then (map_read chain_of (and_then out (λ (a : B) (to : Point). map_read (λ (pairs : List (A × B)). (a, pairs)) (more to)))) (λ (row : List B) (to : Point). map_read (λ (e : C). (row, e)) (end to)))
  first more (Got a to) = second a (more to)
  first more (Stuck why rest) = refl

  -- a row and its end: the end behind the further things, or behind them all
  pub row_closed : (begin : Reader B) (more : Reader (List (A × B))) (from : Point) → made row_of (both begin (both more end)) from ≡ made first_of (both (made chain_of (both begin more)) end) from
  row_closed begin more from = first more (begin from)

behind_opening : (out : Read (List Arg × (List (Unit {0} × List Arg) × Unit {0}))) → map_read tuples_of (map_read (λ (b : List Arg × (List (Unit {0} × List Arg) × Unit {0})). (tt, b)) out) ≡ map_read (row_of {A = Unit {0}} {B = List Arg} {C = Unit {0}} (one (sign marks.Close))) out
behind_opening (Got read to) = refl
behind_opening (Stuck why rest) = refl

-- tuples in brackets, behind the first bracket
pub tuples_opened : (n : ℕ) (from middle : Point) → one (sign marks.Open) from ≡ Got tt middle →
    read_tuples n from ≡ made first_of (both (made chain_of (both (read_tuple n) (each (passes (sign marks.Semicolon)) (both (one (sign marks.Semicolon)) (read_tuple n))))) (one (sign marks.Close))) middle
tuples_opened n from middle is =
    ap (λ (x : Read (Unit {0})). map_read tuples_of (and_then x (λ (a : Unit {0}) (to : Point). map_read (λ (b : List Arg × (List (Unit {0} × List Arg) × Unit {0})). (a, b)) (both (read_tuple n) (both (each (passes (sign marks.Semicolon)) (both (one (sign marks.Semicolon)) (read_tuple n))) (one (sign marks.Close))) to)))) is
    ∙ behind_opening (both (read_tuple n) (both (each (passes (sign marks.Semicolon)) (both (one (sign marks.Semicolon)) (read_tuple n))) (one (sign marks.Close))) middle)
    ∙ row_closed (one (sign marks.Close)) (read_tuple n) (each (passes (sign marks.Semicolon)) (both (one (sign marks.Semicolon)) (read_tuple n))) middle
