-- What the code's values stand for, and what a method of `Reading` ensures.
use Rattle.formula_syntax.specs.declared.marks.Mark.TheVariants as marks
use Rattle.std.specs.Prelude.{◌≡◌, ◌≢◌, ℕ, ◌+◌, ◌^◌, ◌<◌, ◌≤◌, Bool, true, false, List, [], ◌∷◌, ◌++◌, length, Option, Some, None, Result, Ok, Err, ◌-◌, ◌||◌, is_some, drop}
use Rattle.std.specs.Option.{option_map}
use Rattle.std.specs.Borrow.{Bor}
use Rattle.tel_term.specs.declared.terms.Term.{Term}
use Rattle.formula_syntax.specs.declared.names.Names.{Names}
use Rattle.formula_syntax.specs.declared.senses.Sense as declared
use Rattle.formula_syntax.specs.declared.senses.Sense.TheVariants as senses
use Rattle.formula_syntax.specs.declared.literals.Inner.{Inner}
use Rattle.formula_syntax.specs.declared.literals.Inner.TheVariants as inners
use Rattle.tel_term.specs.declared.exprs.Expr.{Expr}
use Rattle.formula_syntax.specs.declared.atoms.Signed.{Signed}
use Rattle.formula_syntax.specs.declared.reading.Stop.{Stop}
use Rattle.formula_syntax.specs.declared.reading.Stop.TheVariants as stops
use Rattle.formula_syntax.specs.Points.{Word, Known, Point, words_of, Read, Reader}
use Rattle.grammar_laws.specs.Points.{at, begins}
use Rattle.tel_lex.specs.declared.token.Token.{Token}
use Rattle.formula_syntax.specs.declared.fault.FormulaFault.{FormulaFault}
use Rattle.formula_syntax.specs.declared.fault.FormulaFault.TheVariants as faults
use Rattle.formula_syntax.specs.Senses.{Sense, Name, Variable, Blank, Number, Str, Sign, Other, inner_of, sense}
use Rattle.grammar_laws.specs.Steps.{Why, Unexpected, Deep, Got, Stuck, made, one, both, at_most, passes}
use Rattle.formula_syntax.specs.Grammar.{SignRead, args_of, name_of, sign, is_sign}

-- what a token says, without where its bytes lie
abbrev pub said : declared.Sense → Sense
said (senses.Name text) = Name text.now
said (senses.Variable name) = Variable name.now
said senses.Blank = Blank
said (senses.Number text) = Number text.now
said (senses.Str text) = Str text.now
said (senses.Sign mark) = Sign mark
said senses.Other = Other

-- the names and strings, and the variables, that were seen
abbrev pub known_of : Names → Known
known_of names = record { symbols = names.symbols; vars = names.vars }

-- the bytes of a string at whose front this stands
abbrev pub bytes_of : Inner → Option (List ℕ)
bytes_of inners.End = Some []
bytes_of (inners.Byte byte more) = option_map (λ bytes. byte ∷ bytes) (inner_of more.now)
bytes_of inners.Wrong = None

abbrev pub IsShorter : Inner → ℕ → Type 0
IsShorter (inners.Byte byte more) count = length more.now < count
IsShorter inner count = Unit {0}

-- there are numbers for the names and variables of as many words as are left
pub record HasRoom (point : Point) : Type 0 where
  pub symbols : length point.known.symbols + length point.words < 2 ^ 32 - 1
  pub vars : length point.known.vars + length point.words < 2 ^ 32 - 1

-- and for one more of each
pub record HasRoomForOne (point : Point) : Type 0 where
  pub symbols : length point.known.symbols + length point.words + 1 < 2 ^ 32 - 1
  pub vars : length point.known.vars + length point.words + 1 < 2 ^ 32 - 1

-- what the first word says
abbrev pub seen : List Word → Option Sense
seen [] = None
seen (word ∷ words) = Some (sense word)

abbrev pub seen_is : (Sense → Bool) → Option Sense → Bool
seen_is test None = false
seen_is test (Some said) = test said

-- the point behind the first word, if it is taken
abbrev pub behind_first : List Word → List Word
behind_first [] = []
behind_first (word ∷ words) = words

abbrev pub skipped : Bool → Point → Point
skipped true point = at point.known (behind_first point.words)
skipped false point = point

-- a sign that was found
abbrev pub found : Bool → Option (Unit {0})
found true = Some tt
found false = None

-- a word that passes was taken, or no such word stands here
abbrev pub Takes : {A : Type 0} → (Word → Option (Known → A × Known)) → Point → Option A → Point → Type 0
Takes value from (Some thing) to = (begins (passes value) from.words ≡ true) × (one value from ≡ Got thing to)
Takes value from None to = (begins (passes value) from.words ≡ false) × (to ≡ from)

abbrev pub why_of : Stop → Why
why_of stops.Deep = Deep
why_of stop = Unexpected

-- what the reader gives, unless memory fails
abbrev pub Reads : {A : Type 0} → Read A → Result A Stop → Point → Type 0
Reads outcome (Ok thing) new = outcome ≡ Got thing new
Reads outcome (Err stop) new = stop ≢ stops.Memory → outcome ≡ Stuck (why_of stop) new.words

-- A later point: words were taken from the front, names and variables were added at the end, at most one of each for a word.
pub record Onward (old new : Point) : Type 0 where
  pub words : (front : List Word) × (old.words ≡ front ++ new.words)
  pub symbols : (more : List Term) × (new.known.symbols ≡ old.known.symbols ++ more)
  pub vars : (more : List (List ℕ)) × (new.known.vars ≡ old.known.vars ++ more)
  pub symbols_room : length new.known.symbols + length new.words ≤ length old.known.symbols + length old.words
  pub vars_room : length new.known.vars + length new.words ≤ length old.known.vars + length old.words

-- the bytes that a reference leads to
abbrev pub view_text : Bor (List ℕ) → List ℕ
view_text text = text.now

-- a word was taken, of which `make` makes the thing, unless memory fails
abbrev pub Makes : {A : Type 0} → (Known → A × Known) → Point → Result A Stop → Point → Type 0
Makes make old (Ok thing) new = (make old.known ≡ (thing, new.known)) × (new.words ≡ behind_first old.words)
Makes make old (Err stop) new = stop ≡ stops.Memory

-- an atom as it is read, without its arguments
abbrev pub sign_of : Signed → SignRead
sign_of sign = (found sign.negative, (found sign.before, (sign.name.now, found sign.after)))

abbrev pub ReadsSign : Read SignRead → Result Signed Stop → Point → Type 0
ReadsSign outcome (Ok sign) new = outcome ≡ Got (sign_of sign) new
ReadsSign outcome (Err stop) new = stop ≢ stops.Memory → outcome ≡ Stuck (why_of stop) new.words

-- the arguments of an atom, at most so many behind the first one
abbrev pub args_read : ℕ → Reader Expr → Reader (List Expr)
args_read most read = made args_of (both (one (sign marks.Open)) (both read (both (at_most most (passes (sign marks.Comma)) (both (one (sign marks.Comma)) read)) (one (sign marks.Close)))))

-- what a constant or an atom begins with
abbrev pub starts_flat : Sense → Bool
starts_flat said = is_sign marks.Ampersand said || (is_sign marks.Minus said || (is_sign marks.Prime said || is_some (name_of said)))

-- the point before the token at this place
abbrev pub point_at : Names → List Token → ℕ → Point
point_at names tokens place = at (known_of names) (words_of (drop place tokens))

-- a fault of this stop at this token
abbrev pub fault_of : Stop → ℕ → FormulaFault
fault_of stops.Unexpected place = faults.Syntax place
fault_of stops.Deep place = faults.TooDeep place
fault_of stops.Memory place = faults.Memory

-- the token of a syntax fault, and of one that is too deep
abbrev pub IfSyntax : FormulaFault → (ℕ → Type 0) → Type 0
IfSyntax (faults.Syntax place) P = P place
IfSyntax fault P = Unit {0}

abbrev pub IfTooDeep : FormulaFault → (ℕ → Type 0) → Type 0
IfTooDeep (faults.TooDeep place) P = P place
IfTooDeep fault P = Unit {0}

-- the reader gives this thing, and goes on at the token at the place
pub record ReadUpTo {A : Type 0} (read : Reader A) (old new : Names) (tokens : List Token) (place : ℕ) (thing : A) (end : ℕ) : Type 0 where
  pub from : place ≤ end
  pub within : end ≤ length tokens
  pub reads : read (point_at old tokens place) ≡ Got thing (point_at new tokens end)
  pub symbols_room : length new.symbols + (length tokens - end) ≤ length old.symbols + (length tokens - place)
  pub vars_room : length new.vars + (length tokens - end) ≤ length old.vars + (length tokens - place)

-- the reader stops at the token at the place
pub record StopsAt {A : Type 0} (read : Reader A) (why : Why) (old : Names) (tokens : List Token) (place end : ℕ) : Type 0 where
  pub from : place ≤ end
  pub within : end ≤ length tokens
  pub stops : read (point_at old tokens place) ≡ Stuck why (words_of (drop end tokens))

-- names and variables are kept, and new ones are behind them
pub record Grows (old new : Names) : Type 0 where
  pub symbols : (more : List Term) × (new.symbols ≡ old.symbols ++ more)
  pub vars : (more : List (List ℕ)) × (new.vars ≡ old.vars ++ more)

-- how many levels may be open at once
abbrev pub most_levels : ℕ
most_levels = 64
