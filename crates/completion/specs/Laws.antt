-- The clauses of settled modules say the completion of the length, and its stable sets satisfy them.
use Rattle.std.specs.Prelude.{ℕ, ◌-◌, ◌<◌, List, IsTrue}
use Rattle.tel_base.specs.declared.literals.Lit.{Lit}
use Rattle.tel_base.specs.Members.{In}
use Rattle.normal_program.specs.declared.modules.StepModule.{StepModule}
use Rattle.normal_program.specs.StableSets.{Set}
use Rattle.normal_program.specs.ModuleClauses.{clauses_of}
use Rattle.completion.specs.Completions.{clause_true, AreSettled, Completes}
use Rattle.completion.specs.Lengths.{IsStableOf, AreApart, ArePlain, IsValued}

-- the assignment makes the clauses of the modules before n true
abbrev pub SatisfiesClauses : (ℕ → StepModule) → ℕ → Set → Type 0
SatisfiesClauses steps n S = (t : ℕ) → t < n → (clause : List Lit) → In clause (clauses_of (steps t)) → IsTrue (clause_true S clause)

-- with the end of the state n - 1 such an assignment satisfies the completion
abbrev pub ClausesGiveCompletion : Type 0
ClausesGiveCompletion = (steps : ℕ → StepModule) (n : ℕ) (S : Set) → AreSettled steps n → 0 < n → SatisfiesClauses steps n S → IsTrue (S (steps (n - 1)).end) → Completes steps n S

-- an assignment that satisfies the completion makes the clauses true, and has the end
abbrev pub CompletionGivesClauses : Type 0
CompletionGivesClauses = (steps : ℕ → StepModule) (n : ℕ) (S : Set) → AreSettled steps n → 0 < n → Completes steps n S → SatisfiesClauses steps n S × IsTrue (S (steps (n - 1)).end)

-- a stable set with the values of the bodies satisfies the completion
abbrev pub StableSetsComplete : Type 0
StableSetsComplete =
    (steps : ℕ → StepModule) (n : ℕ) (plain S values : Set) → AreSettled steps n → AreApart steps n → ArePlain steps n plain → 0 < n → IsStableOf steps n S → IsValued steps n plain S values → Completes steps n values

-- so it makes the clauses true, and has the end
abbrev pub StableSetsSatisfy : Type 0
StableSetsSatisfy =
    (steps : ℕ → StepModule) (n : ℕ) (plain S values : Set) → AreSettled steps n → AreApart steps n → ArePlain steps n plain → 0 < n → IsStableOf steps n S → IsValued steps n plain S values → SatisfiesClauses steps n values × IsTrue (values (steps (n - 1)).end)
