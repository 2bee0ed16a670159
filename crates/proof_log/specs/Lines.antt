-- The lines of the log: the bytes of each, and which have the form of a line.
use Rattle.std.specs.Prelude.{ℕ, ◌+◌, ◌-◌, ◌^◌, ◌<◌, ◌≤◌, List, [], ◌∷◌, ◌++◌, codes, decimal, length, map, if◌then◌else◌}
use Rattle.std.specs.List.{flat_map}
use Rattle.tel_base.specs.declared.literals.Lit.{Lit}
use Rattle.proof_log.specs.declared.line.Line.{Line}
use Rattle.proof_log.specs.declared.line.Line.TheVariants as lines
use Rattle.proof_log.specs.declared.line.Kind.{Kind}
use Rattle.proof_log.specs.declared.line.Kind.TheVariants as kinds

-- the greatest number of a line, 4294967295
abbrev pub greatest : ℕ
greatest = 2 ^ 32 - 1

-- the number that is written for a variable is one more
abbrev pub lit_number : Lit → ℕ
lit_number lit = lit.var + 1

-- a literal is its number, behind `-` where it is a negation
abbrev pub lit_text : Lit → List ℕ
lit_text lit = if lit.positive then decimal (lit_number lit) else 45 ∷ decimal (lit_number lit)

-- literals one after another, and `0`
abbrev pub clause_text : List Lit → List ℕ
clause_text lits = flat_map (λ lit. lit_text lit ++ codes " ") lits ++ codes "0"

-- the numbers of variables one after another, and `0`
abbrev pub set_text : List ℕ → List ℕ
set_text set = flat_map (λ var. decimal (var + 1) ++ codes " ") set ++ codes "0"

-- the bytes of a line
abbrev pub line_text : Line → List ℕ
line_text (lines.Length n) = codes "n " ++ decimal n ++ codes "\n"
line_text (lines.Module clause) = codes "m " ++ clause_text clause ++ codes "\n"
line_text (lines.Loop atom set clause) = codes "u " ++ decimal (atom + 1) ++ codes " " ++ set_text set ++ codes " " ++ clause_text clause ++ codes "\n"
line_text (lines.Learnt clause) = codes "r " ++ clause_text clause ++ codes "\n"
line_text (lines.Block clause) = codes "b " ++ clause_text clause ++ codes "\n"
line_text (lines.End n) = codes "e " ++ decimal n ++ codes "\n"

-- the numbers strictly rise, from above a least one up to the greatest
abbrev pub Rises : ℕ → List ℕ → Type 0
Rises low [] = Unit {0}
Rises low (n ∷ ns) = (low < n) × (n ≤ greatest) × Rises n ns

-- a clause has a literal, and the numbers of its variables rise
abbrev pub IsClause : List Lit → Type 0
IsClause lits = (0 < length lits) × Rises 0 (map lit_number lits)

-- a set has a variable, and the numbers of its variables rise
abbrev pub IsSet : List ℕ → Type 0
IsSet set = (0 < length set) × Rises 0 (map (λ var. var + 1) set)

-- the form of a line
abbrev pub HasForm : Line → Type 0
HasForm (lines.Length n) = (1 ≤ n) × (n ≤ greatest)
HasForm (lines.Module clause) = IsClause clause
HasForm (lines.Loop atom set clause) = (atom + 1 ≤ greatest) × IsSet set × IsClause clause
HasForm (lines.Learnt clause) = IsClause clause
HasForm (lines.Block clause) = IsClause clause
HasForm (lines.End n) = (1 ≤ n) × (n ≤ greatest)

-- a line that has a clause alone
abbrev pub line_of : Kind → List Lit → Line
line_of kinds.Module clause = lines.Module clause
line_of kinds.Learnt clause = lines.Learnt clause
line_of kinds.Block clause = lines.Block clause
