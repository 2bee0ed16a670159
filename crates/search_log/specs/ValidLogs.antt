-- Valid logs: each line meets what is asked of it, over the clauses of the lines before it alone (own; for a learnt clause the unit rule, Goldberg and
-- Novikov, "Verification of proofs of unsatisfiability for CNF formulas", 2003).
use Rattle.std.specs.Prelude.{◌≡◌, ℕ, suc, ◌<◌, Bool, true, false, List, [], ◌∷◌, ◌++◌, map}
use Rattle.std.specs.List.{flat_map}
use Rattle.tel_base.specs.declared.literals.Lit.{Lit}
use Rattle.tel_base.specs.Literals.{negations}
use Rattle.tel_base.specs.Members.{In}
use Rattle.clause_store.specs.Closure.{Clause, Conflict, Absorbed}
use Rattle.normal_program.specs.StableSets.{Set}
use Rattle.unfounded_sets.specs.LoopClauses.{IsLoopClause, among}
use Rattle.search_laws.specs.Walks.{IsClosedWalk}
use Rattle.search_laws.specs.Lengths.{Length}
use Rattle.search_laws.specs.Origins.{IsBlock}
use Rattle.search_laws.specs.Needed.{IsCut}
use Rattle.proof_log.specs.declared.line.Line.{Line}
use Rattle.proof_log.specs.declared.line.Line.TheVariants as lines
use Rattle.proof_log.specs.Lines.{HasForm}

-- the clause of a line, where it has one
abbrev pub clause_of : Line → List Clause
clause_of (lines.Length n) = []
clause_of (lines.Module clause) = clause ∷ []
clause_of (lines.Loop atom set clause) = clause ∷ []
clause_of (lines.Learnt clause) = clause ∷ []
clause_of (lines.Block clause) = clause ∷ []
clause_of (lines.End n) = []

-- the clauses of lines
abbrev pub clauses_in : List Line → List Clause
clauses_in log = flat_map clause_of log

-- the variables of which a line speaks
abbrev pub vars_of : Line → List ℕ
vars_of (lines.Length n) = []
vars_of (lines.Module clause) = map (λ (lit : Lit). lit.var) clause
vars_of (lines.Loop atom set clause) = atom ∷ set ++ map (λ (lit : Lit). lit.var) clause
vars_of (lines.Learnt clause) = map (λ (lit : Lit). lit.var) clause
vars_of (lines.Block clause) = map (λ (lit : Lit). lit.var) clause
vars_of (lines.End n) = []

-- a line that has the form of one, and whose variables are below the bound
pub record IsWritten (bound : ℕ) (line : Line) : Type 0 where
  pub form : HasForm line
  pub below : (var : ℕ) → In var (vars_of line) → var < bound

-- a further clause was needed, and this one, which the clauses before it don't absorb, cuts the walk over them
pub record IsCounted (length : Length) (before : List Clause) (clause : Clause) : Type 0 where
  pub cut : IsCut length before clause
  pub free : Absorbed before clause → ⊥

-- The lines of the search at a length, behind these clauses: each clause that was counted is of an unfounded set or follows by the unit rule, and with
-- each blocking clause its set was found. They have so many counted clauses.
pub data Searched (length : Length) (bound : ℕ) (before : List Clause) : List Line → List Set → ℕ → Type 0 where
  nothing : (log : List Line) (sets : List Set) (count : ℕ) → log ≡ [] → sets ≡ [] → count ≡ 0 → Searched length bound before log sets count
  loop : (log earlier : List Line) (atom : ℕ) (set : List ℕ) (clause : Clause) (sets : List Set) (count less : ℕ) → log ≡ earlier ++ lines.Loop atom set clause ∷ [] → count ≡ suc less → Searched length bound before earlier sets less → IsWritten bound (lines.Loop atom set clause) → IsCounted length (before ++ clauses_in earlier) clause → IsLoopClause length.ground (among set) atom clause → Searched length bound before log sets count
  learnt : (log earlier : List Line) (clause : Clause) (sets : List Set) (count less : ℕ) → log ≡ earlier ++ lines.Learnt clause ∷ [] → count ≡ suc less → Searched length bound before earlier sets less → IsWritten bound (lines.Learnt clause) → IsCounted length (before ++ clauses_in earlier) clause → Conflict (before ++ clauses_in earlier) (negations clause) → Searched length bound before log sets count
  block : (log earlier : List Line) (clause : Clause) (sets past : List Set) (decisions : List Lit) (set : Set) (count : ℕ) → log ≡ earlier ++ lines.Block clause ∷ [] → sets ≡ past ++ set ∷ [] → Searched length bound before earlier past count → IsWritten bound (lines.Block clause) → IsBlock length (before ++ clauses_in earlier) clause decisions set → Searched length bound before log sets count

-- the lines with which a length begins: its number, and the clauses of its last module, in their order
abbrev pub opening : Length → ℕ → List Line
opening length n = lines.Length n ∷ map lines.Module length.clauses

-- the line that ends a complete length
abbrev pub closing : Bool → ℕ → List Line
closing true n = lines.End n ∷ []
closing false n = []

-- The lines of the length n behind the clauses of all lengths before it: it begins, sets are found and blocked, so many clauses are counted, and at the
-- end of a complete length the walk is closed.
pub record IsLengthLog (length : Length) (bound n : ℕ) (before : List Clause) (sets : List Set) (count : ℕ) (complete : Bool) (log : List Line) : Type 0 where
  pub searched : List Line
  pub whole : log ≡ opening length n ++ searched ++ closing complete n
  pub written : (line : Line) → In line (opening length n) → IsWritten bound line
  pub lines : Searched length bound (before ++ length.clauses) searched sets count
  pub closed : complete ≡ true → IsClosedWalk (before ++ clauses_in (opening length n ++ searched)) length.ending
