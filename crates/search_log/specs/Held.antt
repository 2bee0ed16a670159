-- The lines of the clauses that a search holds.
use Rattle.std.specs.Prelude.{◌≡◌, ℕ, suc, List, [], ◌∷◌, ◌++◌, IsTrue}
use Rattle.tel_base.specs.declared.literals.Lit.{Lit}
use Rattle.tel_base.specs.Literals.{negations}
use Rattle.clause_store.specs.declared.store.ClauseKind.TheVariants as kinds
use Rattle.clause_store.specs.Held.{is_clause}
use Rattle.clause_store.specs.Closure.{Conflict}
use Rattle.normal_program.specs.Grounds.{Layers}
use Rattle.normal_program.specs.ModuleClauses.{in_order}
use Rattle.normal_program.specs.StableSets.{Set}
use Rattle.unfounded_sets.specs.LoopClauses.{IsLoopClause, among, rises}
use Rattle.search_laws.specs.Lengths.{Length}
use Rattle.search_laws.specs.Origins.{Kept, lits_of, IsBlock}
use Rattle.proof_log.specs.declared.line.Line.{Line}
use Rattle.proof_log.specs.declared.line.Line.TheVariants as lines
use Rattle.search_log.specs.ValidLogs.{IsCounted}

-- the line of a clause that came to be held: its literals by rising variable, and that of a loop clause has the set that it is of over these rules
abbrev pub IsLineOf : Layers → Kept → Line → Type 0
IsLineOf ground one (lines.Loop atom set clause) = (one.kind ≡ kinds.Loop) × (clause ≡ in_order one.lits) × IsTrue (rises set) × IsLoopClause ground (among set) atom one.lits
IsLineOf ground one (lines.Learnt clause) = (one.kind ≡ kinds.Learnt) × (clause ≡ in_order one.lits)
IsLineOf ground one (lines.Block clause) = (one.kind ≡ kinds.Block) × (clause ≡ in_order one.lits)
IsLineOf ground one (lines.Length n) = ⊥
IsLineOf ground one (lines.Module clause) = ⊥
IsLineOf ground one (lines.End n) = ⊥

-- the lines of the clauses that came behind these, in their order; the clauses are of different variables below the number
pub data AreLines (vars : ℕ) (ground : Layers) (start : List Kept) : List Kept → List Line → Type 0 where
  nothing : (held : List Kept) (log : List Line) → held ≡ start → log ≡ [] → AreLines vars ground start held log
  more : (held before : List Kept) (one : Kept) (log earlier : List Line) (line : Line) → held ≡ before ++ one ∷ [] → log ≡ earlier ++ line ∷ [] → AreLines vars ground start before earlier → IsTrue (is_clause vars one.lits) → IsLineOf ground one line → AreLines vars ground start held log

-- at a length these clauses came behind those, so many were counted, and with the blocking ones these sets were found
pub data Came (length : Length) (start : List Kept) : List Kept → List Set → ℕ → Type 0 where
  nothing : (held : List Kept) (sets : List Set) (count : ℕ) → held ≡ start → sets ≡ [] → count ≡ 0 → Came length start held sets count
  counting : (held before : List Kept) (one : Kept) (sets : List Set) (count less : ℕ) → held ≡ before ++ one ∷ [] → count ≡ suc less → Came length start before sets less → (one.kind ≡ kinds.Block → ⊥) → IsCounted length (lits_of before) one.lits → (one.kind ≡ kinds.Learnt → Conflict (lits_of before) (negations one.lits)) → Came length start held sets count
  blocking : (held before : List Kept) (one : Kept) (sets past : List Set) (decisions : List Lit) (set : Set) (count : ℕ) → held ≡ before ++ one ∷ [] → sets ≡ past ++ set ∷ [] → Came length start before past count → one.kind ≡ kinds.Block → IsBlock length (lits_of before) one.lits decisions set → Came length start held sets count
