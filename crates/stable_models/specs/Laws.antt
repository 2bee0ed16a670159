-- The stable sets of the program of a length are its temporal equilibrium models.
use Rattle.std.specs.Prelude.{◌≡◌, ℕ, ◌-◌, ◌<◌, true, ◌&&◌, List, length, slice_get, slice_index_or, IsTrue}
use Rattle.std.specs.List.{Contains}
use Rattle.tel_rule.specs.Ground.{Ground, IsGround}
use Rattle.tel_rule.specs.Nodes.{guards}
use Rattle.tel_semantics.specs.Traces.{Test, test_of, IsBelow}
use Rattle.tel_semantics.specs.NodeFormula.{node_formula}
use Rattle.tel_semantics.specs.Satisfaction.{sat}
use Rattle.tel_semantics.specs.Laws.{MeetsAll}
use Rattle.tel_semantics.specs.Equilibrium.{list_of}
use Rattle.normal_program.specs.StableSets.{Set}
use Rattle.atom_space.specs.Numbers.{visible, part, body_at, end_at}
use Rattle.formula_unfold.specs.Nodes.{counts_of}
use Rattle.step_module.specs.Modules.{module_of}
use Rattle.completion.specs.Completions.{AreSettled}
use Rattle.completion.specs.Lengths.{AreApart, ArePlain, IsValued}
use Rattle.completion.specs.Laws.{SatisfiesClauses}
use Rattle.stable_models.specs.Values.{full, read_trace, body_value, full_with_bodies, is_plain}
use Rattle.stable_models.specs.Programs.{IsStableAt, IsSupportedAt, is_closed_at}

-- the set of a trace
abbrev pub full_of : Ground → ℕ → List (List ℕ) → Set
full_of program n trace = full program n (test_of trace) (test_of trace)

-- that of each model is stable
abbrev pub ModelsAreStable : Type 0
ModelsAreStable = (program : Ground) (n : ℕ) (trace : List (List ℕ)) → IsGround program → 0 < n → Contains (list_of program n) trace → IsStableAt program n (full_of program n trace)

-- each stable set is that of a model, whose states are read off the set
abbrev pub StableAreModels : Type 0
StableAreModels =
    (program : Ground) (n : ℕ) (S : Set) → IsGround program → 0 < n → IsStableAt program n S
    → Contains (list_of program n) (read_trace program n S) × ((v : ℕ) → S v ≡ full_of program n (read_trace program n S) v)

-- and of that one alone
abbrev pub SetsDiffer : Type 0
SetsDiffer =
    (program : Ground) (n : ℕ) (trace other : List (List ℕ)) → IsGround program → Contains (list_of program n) trace → Contains (list_of program n) other → ((v : ℕ) → full_of program n trace v ≡ full_of program n other v) → trace ≡ other

-- the trace of a set: the atoms that are true in it
abbrev pub trace_in : Ground → Set → Test
trace_in program S k a = S (visible (counts_of program) a k)

-- in a supported set the variable of a node has the truth of its formula in the set's trace
abbrev pub NodesOfSupported : Type 0
NodesOfSupported =
    (program : Ground) (n : ℕ) (S : Set) → IsGround program → 0 < n → IsSupportedAt program n S → (x k : ℕ) → x < length program.nodes → k < n → S (part (counts_of program) x k) ≡ sat (node_formula program.nodes x) n (trace_in program S) (trace_in program S) k

abbrev pub StableAreSupported : Type 0
StableAreSupported = (program : Ground) (n : ℕ) (S : Set) → IsStableAt program n S → IsSupportedAt program n S

-- so in a stable one
abbrev pub NodesOfStable : Type 0
NodesOfStable =
    (program : Ground) (n : ℕ) (S : Set) → IsGround program → 0 < n → IsStableAt program n S → (x k : ℕ) → x < length program.nodes → k < n → S (part (counts_of program) x k) ≡ sat (node_formula program.nodes x) n (trace_in program S) (trace_in program S) k

-- a set that is closed under the reduct and has the atoms of H has each node that holds in (H, T), where each way from it down to an arrow passes a Not
abbrev pub NodesOfClosed : Type 0
NodesOfClosed =
    (program : Ground) (n : ℕ) (H T : Test) (X : Set) → IsGround program → 0 < n → IsBelow n (length program.atoms) H T → IsTrue (is_closed_at program n (full program n T T) X)
    → ((a k : ℕ) → a < length program.atoms → k < n → IsTrue (H k a) → IsTrue (X (visible (counts_of program) a k)))
    → (x k : ℕ) → x < length program.nodes → k < n → IsTrue (slice_index_or (guards program.nodes) x true) → IsTrue (sat (node_formula program.nodes x) n H T k) → IsTrue (X (part (counts_of program) x k))

-- where (H, T) is a model, its set is closed under the reduct by that of T
abbrev pub ModelsAreClosed : Type 0
ModelsAreClosed = (program : Ground) (n : ℕ) (H T : Test) → IsGround program → 0 < n → IsBelow n (length program.atoms) H T → MeetsAll program n H T → IsTrue (is_closed_at program n (full program n T T) (full program n H T))

-- and a set that is closed under it gives a model: T cut to the set, and T
abbrev pub ClosedAreModels : Type 0
ClosedAreModels =
    (program : Ground) (n : ℕ) (T : Test) (X : Set) → IsGround program → 0 < n → MeetsAll program n T T → IsTrue (is_closed_at program n (full program n T T) X) → MeetsAll program n (λ k a. T k a && X (visible (counts_of program) a k)) T

-- with the variables of bodies nothing else changes, and each has the truth of its body
pub record BodiesAreAdded (program : Ground) (n : ℕ) (T : Test) : Type 0 where
  pub atoms : (a t : ℕ) → a < length program.atoms → full_with_bodies program n T (visible (counts_of program) a t) ≡ full program n T T (visible (counts_of program) a t)
  pub nodes : (x t : ℕ) → x < length program.nodes → full_with_bodies program n T (part (counts_of program) x t) ≡ full program n T T (part (counts_of program) x t)
  pub ends : (t : ℕ) → full_with_bodies program n T (end_at (counts_of program) t) ≡ full program n T T (end_at (counts_of program) t)
  pub bodies : (r t : ℕ) → r < length program.instances → t < n → full_with_bodies program n T (body_at (counts_of program) r t) ≡ body_value program (full program n T T) t (slice_get program.instances r)

abbrev pub SetsHaveBodies : Type 0
SetsHaveBodies = (program : Ground) (n : ℕ) (T : Test) → BodiesAreAdded program n T

-- the modules of a program are settled
abbrev pub TemplatesAreSettled : Type 0
TemplatesAreSettled = (program : Ground) (n : ℕ) → IsGround program → AreSettled (module_of program) n

-- a variable stands for one of their bodies; their ends and open variables are apart from the heads of states so far
abbrev pub TemplatesAreApart : Type 0
TemplatesAreApart = (program : Ground) (n : ℕ) → IsGround program → AreApart (module_of program) n

-- but for the variables of their bodies they speak of atoms, nodes and ends
abbrev pub TemplatesArePlain : Type 0
TemplatesArePlain = (program : Ground) (n : ℕ) → IsGround program → ArePlain (module_of program) n (is_plain program)

-- the set of a trace with the variables of its bodies has the values of the bodies
abbrev pub ModelsAreValued : Type 0
ModelsAreValued = (program : Ground) (n : ℕ) (T : Test) → IsValued (module_of program) n (is_plain program) (full program n T T) (full_with_bodies program n T)

-- so that of each model makes the clauses of the modules true, and has the end
abbrev pub ModelsSatisfyClauses : Type 0
ModelsSatisfyClauses =
    (program : Ground) (n : ℕ) (trace : List (List ℕ)) → IsGround program → 0 < n → Contains (list_of program n) trace
    → SatisfiesClauses (module_of program) n (full_with_bodies program n (test_of trace)) × IsTrue (full_with_bodies program n (test_of trace) (end_at (counts_of program) (n - 1)))
