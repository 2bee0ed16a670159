-- The module of a state.
use Rattle.std.specs.Prelude.{ℕ, ◌-◌, List, [], ◌++◌, map, length, Some, None, nat_lt, if◌then◌else◌}
use Rattle.std.specs.List.{range_with_len}
use Rattle.tel_base.specs.Literals.{lit_of, negate}
use Rattle.tel_rule.specs.Ground.{Ground}
use Rattle.normal_program.specs.declared.rules.NRule.{NRule}
use Rattle.normal_program.specs.declared.modules.StepModule.{StepModule}
use Rattle.atom_space.specs.Numbers.{visible, end_at}
use Rattle.formula_unfold.specs.Nodes.{counts_of, node_at}
use Rattle.horizon_external.specs.Open.{open_vars_of}
use Rattle.step_module.specs.Rules.{instance_bodies, instance_rules, instance_next, numbered}

-- the rules of the instances that stand at t, and of those that stood one state before and have a primed head
abbrev pub rules_at : Ground → ℕ → List NRule
rules_at program t =
    numbered (instance_rules (counts_of program) t) 0 program.instances
    ++ (if nat_lt 0 t then numbered (instance_next (counts_of program) (t - 1)) 0 program.instances else [])

abbrev pub pairs_at : Ground → ℕ → List (ℕ × ℕ)
pairs_at program t = map (λ (pair : ℕ × ℕ). (visible (counts_of program) pair.0 t, visible (counts_of program) pair.1 t)) program.pairs

-- the module of a state, but for its open variables
abbrev pub stated : Ground → ℕ → StepModule
stated program t = record {
  t = t;
  bodies = numbered (instance_bodies (counts_of program) t) 0 program.instances;
  rules = rules_at program t;
  nodes = map (node_at program t) (range_with_len 0 (length program.nodes));
  pairs = pairs_at program t;
  atoms = map (λ (atom : ℕ). visible (counts_of program) atom t) (range_with_len 0 (length program.atoms));
  open_vars = [];
  end = end_at (counts_of program) t;
  close = if nat_lt 0 t then Some (negate (lit_of (end_at (counts_of program) (t - 1)))) else None;
}

abbrev pub module_of : Ground → ℕ → StepModule
module_of program t = record (stated program t) { open_vars = open_vars_of (counts_of program) (stated program t) }
