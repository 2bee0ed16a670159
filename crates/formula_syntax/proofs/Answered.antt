-- Tokens have one answer, by their places.
use Rattle.std.proofs.Common.{◌≡◌, ℕ, ◌≤◌, List, length, drop, Result, Ok, Err, ap, ◌∙◌, arith}
use Rattle.std.proofs.lemmas.List.{length-map, length-drop}
use Rattle.tel_lex.specs.declared.token.Token.{Token}
use Rattle.formula_syntax.specs.declared.names.Names.{Names}
use Rattle.formula_syntax.specs.declared.fault.FormulaFault.{FormulaFault}
use Rattle.formula_syntax.specs.declared.fault.FormulaFault.TheVariants as faults
use Rattle.grammar_laws.specs.Steps.{Unexpected, Deep, Got, Stuck}
use Rattle.grammar_laws.specs.Refusals.{IsOutcome}
use Rattle.formula_syntax.specs.Points.{Word, Point, Grammar, Read, word_of, words_of}
use Rattle.formula_syntax.specs.Given.{point_at}
use Rattle.formula_syntax.specs.Reached.{IsAnswer}

-- the words from a place on tell the place
same-place : (tokens : List Token) (end other : ℕ) → end ≤ length tokens → other ≤ length tokens → words_of (drop end tokens) ≡ words_of (drop other tokens) → end ≡ other
same-place tokens end other within also same =
    omega (arith, ap (λ (ws : List Word). length ws) same, length-map (drop end tokens) word_of, length-map (drop other tokens) word_of, length-drop end tokens, length-drop other tokens)

module _ {A : Type 0} (F : ℕ → Grammar A) (only : (levels : ℕ) (from : Point) (a b : Read A) → IsOutcome F levels from a → IsOutcome F levels from b → a ≡ b) where
  pub one_answer : (levels : ℕ) (old new last : Names) (tokens : List Token) (place : ℕ) (a b : Result (A × ℕ) FormulaFault) → IsAnswer F levels old new tokens place a → IsAnswer F levels old last tokens place b → a ≡ b
  one_answer levels old new last tokens place (Ok a) (Ok b) s t =
      let e = only levels (point_at old tokens place) (Got a.0 (point_at new tokens a.1)) (Got b.0 (point_at last tokens b.1)) s.stands t.stands in
      let x : a.0 ≡ b.0 = cc in
      let y : point_at new tokens a.1 ≡ point_at last tokens b.1 = cc in
      let z : a.1 ≡ b.1 = same-place tokens a.1 b.1 s.within t.within (ap (λ (p : Point). p.words) y) in
      ◌∙◌ {b = Ok (b.0, a.1)} (ap (λ (thing : A). Ok (thing, a.1)) x) (ap (λ (end : ℕ). Ok (b.0, end)) z)
  one_answer levels old new last tokens place (Ok a) (Err (faults.Syntax end)) s t =
      let e = only levels (point_at old tokens place) (Got a.0 (point_at new tokens a.1)) (Stuck Unexpected (words_of (drop end tokens))) s.stands t.stops in
      absurd cc
  one_answer levels old new last tokens place (Ok a) (Err (faults.TooDeep end)) s t =
      let e = only levels (point_at old tokens place) (Got a.0 (point_at new tokens a.1)) (Stuck Deep (words_of (drop end tokens))) s.stands t.stops in
      absurd cc
  one_answer levels old new last tokens place (Err (faults.Syntax end)) (Ok b) s t =
      let e = only levels (point_at old tokens place) (Got b.0 (point_at last tokens b.1)) (Stuck Unexpected (words_of (drop end tokens))) t.stands s.stops in
      absurd cc
  one_answer levels old new last tokens place (Err (faults.Syntax end)) (Err (faults.Syntax other)) s t =
      let e = only levels (point_at old tokens place) (Stuck Unexpected (words_of (drop end tokens))) (Stuck Unexpected (words_of (drop other tokens))) s.stops t.stops in
      let y : words_of (drop end tokens) ≡ words_of (drop other tokens) = cc in
      ap (λ (here : ℕ). Err (faults.Syntax here)) (same-place tokens end other s.within t.within y)
  one_answer levels old new last tokens place (Err (faults.Syntax end)) (Err (faults.TooDeep other)) s t =
      let e = only levels (point_at old tokens place) (Stuck Unexpected (words_of (drop end tokens))) (Stuck Deep (words_of (drop other tokens))) s.stops t.stops in
      absurd cc
  one_answer levels old new last tokens place (Err (faults.TooDeep end)) (Ok b) s t =
      let e = only levels (point_at old tokens place) (Got b.0 (point_at last tokens b.1)) (Stuck Deep (words_of (drop end tokens))) t.stands s.stops in
      absurd cc
  one_answer levels old new last tokens place (Err (faults.TooDeep end)) (Err (faults.Syntax other)) s t =
      let e = only levels (point_at old tokens place) (Stuck Unexpected (words_of (drop other tokens))) (Stuck Deep (words_of (drop end tokens))) t.stops s.stops in
      absurd cc
  one_answer levels old new last tokens place (Err (faults.TooDeep end)) (Err (faults.TooDeep other)) s t =
      let e = only levels (point_at old tokens place) (Stuck Deep (words_of (drop end tokens))) (Stuck Deep (words_of (drop other tokens))) s.stops t.stops in
      let y : words_of (drop end tokens) ≡ words_of (drop other tokens) = cc in
      ap (λ (here : ℕ). Err (faults.TooDeep here)) (same-place tokens end other s.within t.within y)
  one_answer levels old new last tokens place (Err faults.Memory) b s t = absurd s
  one_answer levels old new last tokens place a (Err faults.Memory) s t = absurd t
