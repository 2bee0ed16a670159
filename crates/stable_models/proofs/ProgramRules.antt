-- The rules of a program of some length in one list.
use Rattle.std.specs.Prelude.{ℕ, ◌-◌, List, [], ◌∷◌, ◌++◌, length, nat_lt, if◌then◌else◌}
use Rattle.std.specs.List.{flat_map, range_with_len}
use Rattle.tel_rule.specs.Ground.{Ground}
use Rattle.normal_program.specs.declared.rules.NRule.{NRule}
use Rattle.normal_program.specs.Shapes.{rules_of_node}
use Rattle.atom_space.specs.Numbers.{part}
use Rattle.formula_unfold.specs.Nodes.{counts_of, shape_at}
use Rattle.step_module.specs.Rules.{instance_rules, instance_next, numbered}
use Rattle.step_module.specs.Modules.{pairs_at}
use Rattle.stable_models.specs.Programs.{end_fact}

abbrev pub node_rules : Ground → ℕ → ℕ → List NRule
node_rules program t x = rules_of_node (record { var = part (counts_of program) x t; shape = shape_at program x t })

-- the rules of the module t
abbrev pub module_rules : Ground → ℕ → List NRule
module_rules program t =
    numbered (instance_rules (counts_of program) t) 0 program.instances
    ++ ((if nat_lt 0 t then numbered (instance_next (counts_of program) (t - 1)) 0 program.instances else [])
    ++ flat_map (node_rules program t) (range_with_len 0 (length program.nodes)))

-- P(n)
abbrev pub program_rules : Ground → ℕ → List NRule
program_rules program n = end_fact program (n - 1) ∷ flat_map (module_rules program) (range_with_len 0 n)

abbrev pub program_pairs : Ground → ℕ → List (ℕ × ℕ)
program_pairs program n = flat_map (pairs_at program) (range_with_len 0 n)
