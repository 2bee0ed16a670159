-- The variables of a loop clause as marks, and a bound of the variables that matter.
use Rattle.std.specs.Prelude.{ℕ, ◌<◌, Bool, false, not, ◌&&◌, List, Option, Some, None, IsTrue, nat_lt, ◌==◌}
use Rattle.std.specs.List.{find, list_all, list_any}
use Rattle.tel_base.specs.declared.literals.Lit.{Lit}
use Rattle.normal_program.specs.declared.rules.NRule.{NRule}
use Rattle.normal_program.specs.StableSets.{Set}
use Rattle.lit_trail.specs.declared.assignment.Entry.{Entry}
use Rattle.unfounded_sets.specs.Unfounded.{is_false, is_true, body_lits}
use Rattle.unfounded_sets.specs.LoopClauses.{is_outside}

-- what is wanted and not in a set
abbrev pub rest_of : Set → Set → Set
rest_of wanted X v = wanted v && not (X v)

abbrev pub all_below : ℕ → List ℕ → Bool
all_below bound vars = list_all (λ v. nat_lt v bound) vars

-- the positive body atoms of the rules are below a bound
abbrev pub are_below : ℕ → List NRule → Bool
are_below bound rules = list_all (λ (rule : NRule). all_below bound rule.pos) rules

-- the variables of false literals are below a bound
abbrev pub Below : ℕ → List Entry → Type 0
Below bound entries = (lit : Lit) → IsTrue (is_false entries lit) → lit.var < bound

abbrev pub var_is : ℕ → Option Lit → Bool
var_is v None = false
var_is v (Some lit) = lit.var == v

-- whether a variable is that of the first false literal of a rule outside
abbrev pub marks_by : List Entry → Set → List NRule → ℕ → Bool
marks_by entries U rules v = list_any (λ (rule : NRule). is_outside U rule && var_is v (find (is_false entries) (body_lits rule))) rules

-- the literal of a variable that is false, where one is
abbrev pub false_of : List Entry → ℕ → Lit
false_of entries v = record { var = v; positive = not (is_true entries v) }
