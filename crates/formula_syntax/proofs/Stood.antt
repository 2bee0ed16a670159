-- What a reading gives is what stands at a token.
use Rattle.std.proofs.Common.{◌≡◌, ℕ, Bool, List, [], drop, Result, Ok, Err, ap}
use Rattle.std.specs.Prelude.{IfOk, IfErr}
use Rattle.tel_lex.specs.declared.token.Token.{Token}
use Rattle.formula_syntax.specs.declared.names.Names.{Names}
use Rattle.formula_syntax.specs.declared.fault.FormulaFault.{FormulaFault}
use Rattle.formula_syntax.specs.declared.fault.FormulaFault.TheVariants as faults
use Rattle.formula_syntax.specs.Points.{Word, Known, Point, words_of, Grammar, Read, Reader}
use Rattle.grammar_laws.specs.Points.{at}
use Rattle.grammar_laws.specs.Steps.{Unexpected, Deep, Got}
use Rattle.formula_syntax.specs.Grammar.{IsExpr, IsFormula}
use Rattle.formula_syntax.specs.Reading.{read_expr, read_formula}
use Rattle.formula_syntax.specs.Given.{point_at, IfSyntax, IfTooDeep, ReadUpTo, StopsAt}
use Rattle.grammar_laws.specs.Refusals.{OneOutcome}
use Rattle.formula_syntax.specs.Reached.{StandsUpTo, SyntaxAt, TooDeepAt, OneAnswer, OneExpr, OneFormula}
use Rattle.grammar_laws.proofs.Exclusive.{outcome-same, one_outcome}
use Rattle.formula_syntax.proofs.Answered.{one_answer}
use Rattle.grammar_laws.proofs.Steady.{Steady}
use Rattle.grammar_laws.proofs.Outcomes.{Family, stands, syntax, too_deep, one_thing}
use Rattle.formula_syntax.proofs.Families.{more_expr, expr-steady, expr-family, more_formula, formula-steady, formula-family}

module _ {A : Type 0} (F : ℕ → Grammar A) (read : ℕ → Reader A) (more : Word → Bool) (family : Family F read more) (steady : (n : ℕ) → Steady (read n)) where
  pub stood : (n : ℕ) (old new : Names) (tokens : List Token) (place : ℕ) (result : Result (A × ℕ) FormulaFault) → IfOk result (λ r. ReadUpTo (read n) old new tokens place r.0 r.1) → IfOk result (λ r. StandsUpTo F n old new tokens place r.0 r.1)
  stood n old new tokens place (Ok r) u = record { from = u.from; within = u.within; stands = stands F read more family n (point_at old tokens place) r.0 (point_at new tokens r.1) u.reads; symbols_room = u.symbols_room; vars_room = u.vars_room }
  stood n old new tokens place (Err fault) u = u

  pub stopped : (n : ℕ) (old : Names) (tokens : List Token) (place : ℕ) (result : Result (A × ℕ) FormulaFault) → IfErr result (λ fault. IfSyntax fault (λ end. StopsAt (read n) Unexpected old tokens place end)) → IfErr result (λ fault. IfSyntax fault (λ end. SyntaxAt F n old tokens place end))
  stopped n old tokens place (Err (faults.Syntax end)) s = record { from = s.from; within = s.within; stops = syntax F read more family steady n (point_at old tokens place) (words_of (drop end tokens)) s.stops }
  stopped n old tokens place (Err (faults.TooDeep end)) s = s
  stopped n old tokens place (Err faults.Memory) s = s
  stopped n old tokens place (Ok r) s = s

  pub deepened : (n : ℕ) (old : Names) (tokens : List Token) (place : ℕ) (result : Result (A × ℕ) FormulaFault) → IfErr result (λ fault. IfTooDeep fault (λ end. StopsAt (read n) Deep old tokens place end)) → IfErr result (λ fault. IfTooDeep fault (λ end. TooDeepAt F n old tokens place end))
  deepened n old tokens place (Err (faults.TooDeep end)) s = record { from = s.from; within = s.within; stops = too_deep F read more family n (point_at old tokens place) (words_of (drop end tokens)) s.stops }
  deepened n old tokens place (Err (faults.Syntax end)) s = s
  deepened n old tokens place (Err faults.Memory) s = s
  deepened n old tokens place (Ok r) s = s

got-one : {A : Type 0} (a b : A) (later last : Known) → ◌≡◌ {A = Read A} (Got a (at later [])) (Got b (at last [])) → (a ≡ b) × (later ≡ last)
got-one a b later last e =
    let x : a ≡ b = cc in
    let y : at later [] ≡ at last [] = cc in
    (x, ap (λ (p : Point). p.known) y)

pub one_expr : OneExpr
one_expr m n known later last words a b p q = got-one a b later last (one_thing IsExpr read_expr more_expr expr-family m n (at known words) a b later last p q)

pub one_formula : OneFormula
one_formula m n known later last words a b p q = got-one a b later last (one_thing IsFormula read_formula more_formula formula-family m n (at known words) a b later last p q)

pub expr-outcome : OneOutcome IsExpr
expr-outcome = one_outcome IsExpr read_expr more_expr expr-family expr-steady

pub formula-outcome : OneOutcome IsFormula
formula-outcome = one_outcome IsFormula read_formula more_formula formula-family formula-steady

pub expr-answer : OneAnswer IsExpr
expr-answer = one_answer IsExpr (outcome-same IsExpr read_expr more_expr expr-family expr-steady)

pub formula-answer : OneAnswer IsFormula
formula-answer = one_answer IsFormula (outcome-same IsFormula read_formula more_formula formula-family formula-steady)
