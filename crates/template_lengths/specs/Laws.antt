-- The lengths that the modules of a program make are as the laws of the search ask.
use Rattle.std.specs.Prelude.{◌≡◌, ℕ, ◌<◌, List, length}
use Rattle.tel_rule.specs.Ground.{Ground, IsGround}
use Rattle.tel_semantics.specs.Traces.{IsTrace}
use Rattle.tel_semantics.specs.Order.{Precedes}
use Rattle.clause_store.specs.Closure.{Clause}
use Rattle.lit_trail.specs.declared.assignment.Entry.{Entry}
use Rattle.lit_trail.specs.Sound.{holds}
use Rattle.lit_trail.specs.Unassigned.{visible_below}
use Rattle.formula_unfold.specs.Nodes.{counts_of}
use Rattle.step_module.specs.Modules.{module_of}
use Rattle.stable_models.specs.Values.{is_plain}
use Rattle.stable_models.specs.Laws.{full_of}
use Rattle.search_laws.specs.Walks.{Before}
use Rattle.search_laws.specs.Lengths.{length_of}
use Rattle.search_laws.specs.Laws.{AreComposed}
use Rattle.search_laws.specs.Founded.{AreModules, IsTotalTrail}
use Rattle.search_laws.specs.Gaps.{AreRanked, IsVisibleTotal}

-- the modules of a program are settled and apart, and speak of their heads, ends and open variables alone
abbrev pub TemplatesAreModules : Type 0
TemplatesAreModules = (program : Ground) (n : ℕ) → IsGround program → 0 < n → AreModules (module_of program) n (is_plain program)

-- some ranks fall from each node to those that its shape speaks of
abbrev pub TemplatesAreRanked : Type 0
TemplatesAreRanked = (program : Ground) (n : ℕ) → IsGround program → (rank : ℕ → ℕ) × AreRanked (module_of program) n rank

-- the lengths up to n are composed
abbrev pub TemplatesAreComposed : Type 0
TemplatesAreComposed = (program : Ground) (n : ℕ) → IsGround program → 0 < n → AreComposed (length_of (module_of program)) n

-- the variables of the atoms of a length stand by state and then by atom
abbrev pub TemplatesAreVisible : Type 0
TemplatesAreVisible = (program : Ground) (n : ℕ) → (length_of (module_of program) n).visible ≡ visible_below (counts_of program) n

-- a closed trail with the clauses of the modules of the length, the end of the length and a value for each atom is total
abbrev pub TrailsAreTotal : Type 0
TrailsAreTotal = (program : Ground) (n : ℕ) (clauses : List Clause) (entries : List Entry) → IsGround program → 0 < n → IsVisibleTotal (module_of program) n clauses (holds entries) → IsTotalTrail (module_of program) n entries

-- where the set of a trace comes before that of another along the variables of the length, the trace comes before it in the order of traces
abbrev pub SetsAreOrdered : Type 0
SetsAreOrdered =
    (program : Ground) (n : ℕ) (first second : List (List ℕ)) → IsTrace n (length program.atoms) first → IsTrace n (length program.atoms) second
    → Before (length_of (module_of program) n).visible (full_of program n first) (full_of program n second) → Precedes first second
