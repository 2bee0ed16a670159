-- HT-traces over all ground atoms, and the temporal equilibrium models of what is demanded of them (Cabalar, Kaminski, Schaub and Schuhmann 2018).
use Rattle.std.specs.Prelude.{◌≡◌, ℕ, ◌<◌, Bool, IsTrue}
use Rattle.tel_semantics.specs.Theory.{DemandOver, meets}
use Rattle.theory_lists.specs.Atoms.{TermAtom}

-- a trace as a test: whether at an instant a ground atom is true, whichever atoms a program speaks of. An HT-trace of length n is a pair of them, H and T,
-- with H below T
abbrev pub Trace : Type 0
Trace = ℕ → TermAtom → Bool

-- H is below T: at each instant below n what is true in H is true in T
abbrev pub IsBelow : ℕ → Trace → Trace → Type 0
IsBelow n H T = (k : ℕ) (atom : TermAtom) → k < n → IsTrue (H k atom) → IsTrue (T k atom)

-- they are the same at each instant below n
abbrev pub AreSame : ℕ → Trace → Trace → Type 0
AreSame n H T = (k : ℕ) (atom : TermAtom) → k < n → H k atom ≡ T k atom

-- (H, T) is a model of a theory: it meets each of its demands, which are as many as there may be
abbrev pub IsModel : (DemandOver TermAtom → Type 0) → ℕ → Trace → Trace → Type 0
IsModel Demanded n H T = (demand : DemandOver TermAtom) → Demanded demand → IsTrue (meets n H T demand)

-- T is a temporal equilibrium model: (T, T) is a model, and no (H, T) with H below T and other than T is one
pub record IsEquilibrium (Demanded : DemandOver TermAtom → Type 0) (n : ℕ) (T : Trace) : Type 0 where
  pub total : IsModel Demanded n T T
  pub minimal : (H : Trace) → IsBelow n H T → IsModel Demanded n H T → AreSame n H T
