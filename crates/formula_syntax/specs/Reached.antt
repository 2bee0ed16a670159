-- What stands at a token, and where tokens stop being a thing, by the places of tokens.
use Rattle.std.specs.Prelude.{◌≡◌, ℕ, ◌+◌, ◌-◌, ◌≤◌, List, [], length, drop, Result, Ok, Err}
use Rattle.tel_lex.specs.declared.token.Token.{Token}
use Rattle.tel_term.specs.declared.exprs.Expr.{Expr}
use Rattle.tel_rule.specs.declared.formulas.Formula.{Formula}
use Rattle.formula_syntax.specs.declared.fault.FormulaFault.{FormulaFault}
use Rattle.formula_syntax.specs.declared.fault.FormulaFault.TheVariants as faults
use Rattle.formula_syntax.specs.declared.names.Names.{Names}
use Rattle.formula_syntax.specs.Points.{Word, Known, words_of, Grammar}
use Rattle.grammar_laws.specs.Points.{at}
use Rattle.grammar_laws.specs.Refusals.{Stands, IsSyntax, IsTooDeep}
use Rattle.formula_syntax.specs.Grammar.{IsExpr, IsFormula}
use Rattle.formula_syntax.specs.Given.{point_at}

-- from the token at a place up to the one at the end stands this thing, and no longer one
pub record StandsUpTo {A : Type 0} (F : ℕ → Grammar A) (levels : ℕ) (old new : Names) (tokens : List Token) (place : ℕ) (thing : A) (end : ℕ) : Type 0 where
  pub from : place ≤ end
  pub within : end ≤ length tokens
  pub stands : Stands F levels (point_at old tokens place) thing (point_at new tokens end)
  pub symbols_room : length new.symbols + (length tokens - end) ≤ length old.symbols + (length tokens - place)
  pub vars_room : length new.vars + (length tokens - end) ≤ length old.vars + (length tokens - place)

-- the tokens from a place on begin a thing up to this end and are none, and with the token there they begin none
pub record SyntaxAt {A : Type 0} (F : ℕ → Grammar A) (levels : ℕ) (old : Names) (tokens : List Token) (place end : ℕ) : Type 0 where
  pub from : place ≤ end
  pub within : end ≤ length tokens
  pub stops : IsSyntax F levels (point_at old tokens place) (words_of (drop end tokens))

-- the token at this end opens one level too many
pub record TooDeepAt {A : Type 0} (F : ℕ → Grammar A) (levels : ℕ) (old : Names) (tokens : List Token) (place end : ℕ) : Type 0 where
  pub from : place ≤ end
  pub within : end ≤ length tokens
  pub stops : IsTooDeep F levels (point_at old tokens place) (words_of (drop end tokens))

-- what a call may answer but for want of memory: the thing that stands at the token, or why none does
abbrev pub IsAnswer : {A : Type 0} → (ℕ → Grammar A) → ℕ → Names → Names → List Token → ℕ → Result (A × ℕ) FormulaFault → Type 0
IsAnswer F levels old new tokens place (Ok read) = StandsUpTo F levels old new tokens place read.0 read.1
IsAnswer F levels old new tokens place (Err (faults.Syntax end)) = SyntaxAt F levels old tokens place end
IsAnswer F levels old new tokens place (Err (faults.TooDeep end)) = TooDeepAt F levels old tokens place end
IsAnswer F levels old new tokens place (Err faults.Memory) = ⊥

-- tokens have one answer at the most, also where tokens are left behind it
abbrev pub OneAnswer : {A : Type 0} → (ℕ → Grammar A) → Type 0
OneAnswer {A = A} F = (levels : ℕ) (old new last : Names) (tokens : List Token) (place : ℕ) (a b : Result (A × ℕ) FormulaFault) → IsAnswer F levels old new tokens place a → IsAnswer F levels old last tokens place b → a ≡ b

-- words are one expression at the most, at whatever levels
abbrev pub OneExpr : Type 0
OneExpr = (m n : ℕ) (known later last : Known) (words : List Word) (a b : Expr) → IsExpr m (at known words) a (at later []) → IsExpr n (at known words) b (at last []) → (a ≡ b) × (later ≡ last)

-- and one formula
abbrev pub OneFormula : Type 0
OneFormula = (m n : ℕ) (known later last : Known) (words : List Word) (a b : Formula) → IsFormula m (at known words) a (at later []) → IsFormula n (at known words) b (at last []) → (a ≡ b) × (later ≡ last)
