-- The program of a length: the rules of the modules of its states, and its end as a fact.
use Rattle.std.specs.Prelude.{ℕ, ◌-◌, Bool, List}
use Rattle.tel_rule.specs.Ground.{Ground}
use Rattle.normal_program.specs.declared.rules.NRule.{NRule}
use Rattle.normal_program.specs.declared.modules.StepModule.{StepModule}
use Rattle.normal_program.specs.StableSets.{Set, is_closed, IsSupported}
use Rattle.atom_space.specs.Numbers.{end_at}
use Rattle.formula_unfold.specs.Nodes.{counts_of}
use Rattle.step_module.specs.Modules.{module_of}
use Rattle.completion.specs.Lengths.{fact_of, modules_below, rules_of_modules, IsStableOf}

-- the fact that the trace ends with the state t
abbrev pub end_fact : Ground → ℕ → NRule
end_fact program t = fact_of (end_at (counts_of program) t)

-- the modules of the states below n
abbrev pub modules_of : Ground → ℕ → List StepModule
modules_of program n = modules_below (module_of program) n

-- a set is stable for the program of length n
abbrev pub IsStableAt : Ground → ℕ → Set → Type 0
IsStableAt program n S = IsStableOf (module_of program) n S

-- it is supported there
abbrev pub IsSupportedAt : Ground → ℕ → Set → Type 0
IsSupportedAt program n S = IsSupported (rules_of_modules (end_fact program (n - 1)) (modules_of program n)) S

-- X is closed there under the reduct by S
abbrev pub is_closed_at : Ground → ℕ → Set → Set → Bool
is_closed_at program n S X = is_closed (rules_of_modules (end_fact program (n - 1)) (modules_of program n)) S X
