-- The laws of logs.
use Rattle.std.specs.Prelude.{ℕ, ◌<◌, ◌≤◌, Bool, List, ◌++◌, IsTrue}
use Rattle.tel_base.specs.declared.literals.Lit.{Lit}
use Rattle.clause_store.specs.Held.{is_clause}
use Rattle.clause_store.specs.Closure.{Clause, Up, Conflict, Absorbed}
use Rattle.normal_program.specs.Grounds.{is_head}
use Rattle.normal_program.specs.ModuleClauses.{in_order}
use Rattle.normal_program.specs.StableSets.{Set}
use Rattle.search_laws.specs.Lengths.{Length}
use Rattle.search_laws.specs.Origins.{Kept, lits_of, IsBlock}
use Rattle.search_laws.specs.Needed.{Needed, IsCut}
use Rattle.proof_log.specs.declared.line.Line.{Line}
use Rattle.proof_log.specs.declared.line.Line.TheVariants as lines
use Rattle.proof_log.specs.Lines.{greatest}
use Rattle.search_log.specs.Alike.{IsAlike, AreAlike}
use Rattle.search_log.specs.ValidLogs.{clauses_in, IsWritten, Searched, IsLengthLog}
use Rattle.search_log.specs.Held.{AreLines, Came}

-- ---- the order within clauses

-- a clause in order has the same literals
abbrev pub OrderIsAlike : Type 0
OrderIsAlike = (clause : Clause) → IsAlike (in_order clause) clause

-- which literals are derived and what conflicts asks for no order
abbrev pub AlikeDerive : Type 0
AlikeDerive = (clauses others : List Clause) → AreAlike clauses others → (start : List Lit) → ((lit : Lit) → Up clauses start lit → Up others start lit) × (Conflict clauses start → Conflict others start)

-- nor does which clauses are absorbed
abbrev pub AlikeAbsorb : Type 0
AlikeAbsorb = (clauses others : List Clause) (clause other : Clause) → AreAlike clauses others → IsAlike clause other → Absorbed clauses clause → Absorbed others other

-- whether a clause is needed, and which ones cut the walk
abbrev pub AlikeCut : Type 0
AlikeCut = (length : Length) (clauses others : List Clause) (clause other : Clause) → AreAlike clauses others → IsAlike clause other → (Needed length clauses → Needed length others) × (IsCut length clauses clause → IsCut length others other)

-- and which ones block it
abbrev pub AlikeBlock : Type 0
AlikeBlock =
    (length : Length) (clauses others : List Clause) (clause other : Clause) (decisions : List Lit) (set : Set) → AreAlike clauses others → IsAlike clause other → IsBlock length clauses clause decisions set → IsBlock length others other decisions set

-- ---- lines

-- a clause of different variables below the bound makes a line of the form
abbrev pub OrderIsWritten : Type 0
OrderIsWritten = (bound : ℕ) (clause : Clause) → bound ≤ greatest → IsTrue (is_clause bound clause) → IsWritten bound (lines.Module (in_order clause)) × IsWritten bound (lines.Learnt (in_order clause)) × IsWritten bound (lines.Block (in_order clause))

-- the lines of the clauses that came at a length are those of its search
abbrev pub CameIsSearched : Type 0
CameIsSearched =
    (length : Length) (bound : ℕ) (start held : List Kept) (sets : List Set) (count : ℕ) (log : List Line) → bound ≤ greatest → ((v : ℕ) → IsTrue (is_head length.ground.modules v) → v < bound)
    → Came length start held sets count → AreLines bound length.ground start held log → Searched length bound (lits_of start) log sets count

-- and have the clauses that are held
abbrev pub LinesAreAlike : Type 0
LinesAreAlike = (length : Length) (bound : ℕ) (start held : List Kept) (log : List Line) → AreLines bound length.ground start held log → AreAlike (lits_of held) (lits_of start ++ clauses_in log)

-- the lines of a length are as good behind clauses in another order of literals
abbrev pub AlikeLengthLog : Type 0
AlikeLengthLog =
    (length : Length) (bound n : ℕ) (before other : List Clause) (sets : List Set) (count : ℕ) (complete : Bool) (log : List Line) → AreAlike before other → IsLengthLog length bound n before sets count complete log → IsLengthLog length bound n other sets count complete log
