-- The rules of the modules that were added, and what else these have.
use Rattle.std.specs.Prelude.{◌≡◌, ℕ, Bool, false, ◌||◌, List, [], ◌++◌, length, Option, Some, None, ◌==◌, slice_get, slice_index_or}
use Rattle.std.specs.List.{flat_map, filter, list_any, range_with_len}
use Rattle.normal_program.specs.declared.rules.NRule.{NRule}
use Rattle.normal_program.specs.declared.shapes.NodeRule.{NodeRule}
use Rattle.normal_program.specs.declared.modules.StepModule.{StepModule}
use Rattle.normal_program.specs.declared.modules.ModuleParts.{ModuleParts}
use Rattle.normal_program.specs.Shapes.{rules_of_node}
use Rattle.normal_program.specs.Numbering.{head_is}

-- all rules of a module: its own, then those of its nodes
abbrev pub all_rules : StepModule → List NRule
all_rules step = step.rules ++ flat_map rules_of_node step.nodes

abbrev pub parts_of : StepModule → ModuleParts
parts_of step = record {
  bodies = step.bodies;
  nodes = step.nodes;
  pairs = step.pairs;
  atoms = step.atoms;
  open_vars = step.open_vars;
  end = step.end;
  close = step.close;
}

pub record Layers : Type 0 where
  pub rules : List NRule
  pub modules : List ModuleParts

abbrev pub layers_of : List NRule → List ModuleParts → Layers
layers_of rules modules = record { rules = rules; modules = modules }

abbrev pub has_head : ℕ → Option NRule → Bool
has_head var None = false
has_head var (Some rule) = head_is var rule.head

-- the numbers of the rules with this head, rising
abbrev pub rules_with : List NRule → ℕ → List ℕ
rules_with rules var = filter (λ (id : ℕ). has_head var (slice_get rules id)) (range_with_len 0 (length rules))

-- whether a variable is of an atom or a node of a module
abbrev pub heads_of : ℕ → ModuleParts → Bool
heads_of var parts = list_any (λ (atom : ℕ). atom == var) parts.atoms || list_any (λ (node : NodeRule). node.var == var) parts.nodes

abbrev pub is_head : List ModuleParts → ℕ → Bool
is_head modules var = list_any (heads_of var) modules

-- the tables are those of the rules and of the modules
pub record IsIndexed (rules : List NRule) (modules : List ModuleParts) (rows : List (List ℕ)) (marks : List Bool) : Type 0 where
  pub row : (var : ℕ) → slice_index_or rows var [] ≡ rules_with rules var
  pub mark : (var : ℕ) → slice_index_or marks var false ≡ is_head modules var
