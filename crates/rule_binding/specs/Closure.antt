-- Rules of binding, and the least set of variables that keeps them.
use Rattle.std.specs.Prelude.{ℕ, Bool, false, not, ◌||◌, List, IsTrue, slice_index_or}
use Rattle.std.specs.List.{list_all}
use Rattle.rule_binding.specs.declared.rules.BindingRule.{BindingRule}
use Rattle.rule_binding.specs.Binding.{Vars}

-- the set keeps a rule: it has the rule's variable where it has all that the rule needs
abbrev pub keeps_rule : Vars → BindingRule → Bool
keeps_rule X rule = X rule.var || not (list_all X rule.needs)

abbrev pub keeps : Vars → List BindingRule → Bool
keeps X rules = list_all (keeps_rule X) rules

-- the variables with a mark
abbrev pub marked : List Bool → Vars
marked marks v = slice_index_or marks v false

-- the set keeps the rules, and each set that does holds it
pub record IsLeast (rules : List BindingRule) (X : Vars) : Type 0 where
  pub closed : IsTrue (keeps X rules)
  pub least : (Y : Vars) → IsTrue (keeps Y rules) → (v : ℕ) → IsTrue (X v) → IsTrue (Y v)
