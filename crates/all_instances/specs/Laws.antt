-- That the live instances of a program suffice.
use Rattle.std.specs.Prelude.{◌≡◌, ◌↔◌, ℕ, ◌<◌, List, IsTrue}
use Rattle.tel_base.specs.Members.{In}
use Rattle.tel_term.specs.declared.terms.Value.{Value}
use Rattle.tel_term.specs.Symbols.{IsTable}
use Rattle.tel_rule.specs.declared.statements.Program.{Program}
use Rattle.tel_semantics.specs.Theory.{DemandOver}
use Rattle.rule_plans.specs.Within.{StatementsAreWithin}
use Rattle.theory_lists.specs.Atoms.{TermAtom}
use Rattle.theory_lists.specs.Theories.{ProgramTheory}
use Rattle.theory_lists.specs.Lists.{told, equilibria}
use Rattle.program_theory.specs.Theory.{IsTheoryOf}
use Rattle.all_instances.specs.Traces.{Trace, AreSame, IsEquilibrium}
use Rattle.all_instances.specs.AllInstances.{AllSay}

-- what is needed of a program: its names and strings are numbered, each once, and its expressions speak of these alone, so that different values are
-- different terms
pub record IsWellMade (program : Program) : Type 0 where
  pub table : IsTable program.symbols
  pub within : StatementsAreWithin program.symbols program.statements

-- what is demanded stands in a list
abbrev pub Among : List (DemandOver TermAtom) → DemandOver TermAtom → Type 0
Among demands demand = In demand demands

-- at each instant below n only these atoms are true
abbrev pub HasOnly : ℕ → List TermAtom → Trace → Type 0
HasOnly n atoms T = (k : ℕ) (atom : TermAtom) → k < n → IsTrue (T k atom) → In atom atoms

-- the temporal equilibrium models of all instances are those of the theory, which is read off the live ones; no atom that the live ones don't speak of is true in one
abbrev pub LiveInstancesSuffice : Type 0
LiveInstancesSuffice =
    (program : Program) (live : List (List (List Value))) (theory : ProgramTheory) (n : ℕ) (T : Trace) → IsWellMade program → IsTheoryOf program live theory
    → IsEquilibrium (AllSay program) n T ↔ (IsEquilibrium (Among theory.demands) n T × HasOnly n theory.atoms T)

-- a listed trace tells a temporal equilibrium model of all instances
abbrev pub ListedAreOfAll : Type 0
ListedAreOfAll =
    (program : Program) (live : List (List (List Value))) (theory : ProgramTheory) (n : ℕ) (trace : List (List ℕ)) → IsWellMade program → IsTheoryOf program live theory
    → In trace (equilibria theory n) → IsEquilibrium (AllSay program) n (told theory.atoms trace)

-- a listed trace tells T, and no other one does
pub record IsToldOnce (theory : ProgramTheory) (n : ℕ) (T : Trace) : Type 0 where
  pub trace : List (List ℕ)
  pub listed : In trace (equilibria theory n)
  pub tells : AreSame n (told theory.atoms trace) T
  pub alone : (other : List (List ℕ)) → In other (equilibria theory n) → AreSame n (told theory.atoms other) T → other ≡ trace

-- each temporal equilibrium model of all instances is told by exactly one listed trace; at length 0, which has no instant, none is listed
abbrev pub ModelsOfAllAreListed : Type 0
ModelsOfAllAreListed =
    (program : Program) (live : List (List (List Value))) (theory : ProgramTheory) (n : ℕ) (T : Trace) → IsWellMade program → IsTheoryOf program live theory → 0 < n
    → IsEquilibrium (AllSay program) n T → IsToldOnce theory n T
