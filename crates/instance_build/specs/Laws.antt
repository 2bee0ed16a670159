-- What holds of the instances of rules: they mean what the rules say, are in range and are guarded, one by one and in a row.
use Rattle.std.specs.Prelude.{◌≡◌, ℕ, ◌+◌, ◌<◌, ◌≤◌, Bool, List, map, length, nat_le, IsTrue}
use Rattle.std.specs.List.{list_all}
use Rattle.tel_base.specs.Members.{In}
use Rattle.tel_rule.specs.declared.parts.Part.{Part}
use Rattle.tel_rule.specs.declared.formulas.Atom.{Atom}
use Rattle.tel_rule.specs.declared.statements.Literal.{Literal}
use Rattle.tel_rule.specs.declared.statements.Head.{Head}
use Rattle.tel_rule.specs.declared.nodes.Node.{Node}
use Rattle.tel_rule.specs.declared.ground.Instance.{Instance}
use Rattle.tel_rule.specs.Nodes.{are_nodes}
use Rattle.tel_rule.specs.Ground.{instance_in_range, is_guarded}
use Rattle.tel_semantics.specs.Theory.{Demand, demand_of}
use Rattle.instance_build.specs.RuleAtoms.{rule_atoms}
use Rattle.instance_build.specs.Guarded.{is_guarded_body}
use Rattle.instance_build.specs.Instances.{Numbered, in_row, ground_rule}
use Rattle.instance_build.specs.Meaning.{rule_meaning}
use Rattle.instance_build.specs.Placed.{Placed}

-- ---- one instance

-- where its nodes stand among others, an instance demands this
abbrev pub Demands : Numbered Instance → Demand → Type 0
Demands made demand = (nodes : List Node) (first : ℕ) → Placed nodes first (made first).1 → demand_of nodes (made first).0 ≡ demand

-- where its nodes stand among others, each way from what it looks at down to an arrow passes a Not, if it has a head
abbrev pub IsGuarded : Numbered Instance → Type 0
IsGuarded made = (nodes : List Node) (first : ℕ) → Placed nodes first (made first).1 → IsTrue (is_guarded nodes (made first).0)

-- an instance and its nodes are in range where there are so many atoms, wherever the nodes are numbered from
pub record IsInRange (atoms : ℕ) (made : Numbered Instance) : Type 0 where
  pub nodes : (first total : ℕ) → first + length (made first).1 ≤ total → IsTrue (are_nodes atoms total first (made first).1)
  pub instance : (first total : ℕ) → first + length (made first).1 ≤ total → IsTrue (instance_in_range atoms total (made first).0)

-- no literal has more than two `not`
abbrev pub have_few_nots : List Literal → Bool
have_few_nots body = list_all (λ (literal : Literal). nat_le literal.nots 2) body

-- the instance of a rule demands what the rule says
abbrev pub InstancesMeanRules : Type 0
InstancesMeanRules =
    (number : Atom → ℕ) (statement : ℕ) (part : Part) (head : Head) (body : List Literal)
    → IsTrue (have_few_nots body) → Demands (ground_rule number statement part head body) (record { part = part; formula = rule_meaning number head body })

-- it is in range where the numbers of the rule's atoms are
abbrev pub InstancesAreInRange : Type 0
InstancesAreInRange =
    (number : Atom → ℕ) (atoms statement : ℕ) (part : Part) (head : Head) (body : List Literal)
    → ((atom : Atom) → In atom (rule_atoms head body) → number atom < atoms) → IsInRange atoms (ground_rule number statement part head body)

-- it is guarded where the rule's body is
abbrev pub InstancesAreGuarded : Type 0
InstancesAreGuarded =
    (number : Atom → ℕ) (statement : ℕ) (part : Part) (head : Head) (body : List Literal)
    → IsTrue (is_guarded_body head body) → IsGuarded (ground_rule number statement part head body)

-- ---- instances in a row, from node 0 on

-- they demand what each of them does
abbrev pub RowsMeanInstances : Type 0
RowsMeanInstances =
    (row : List (Numbered Instance × Demand)) → ((one : Numbered Instance × Demand) → In one row → Demands one.0 one.1)
    → let all = in_row (map (λ one. one.0) row) 0 in map (demand_of all.1) all.0 ≡ map (λ one. one.1) row

-- where each is in range all are, with all their nodes
abbrev pub RowsAreInRange : Type 0
RowsAreInRange =
    (atoms : ℕ) (row : List (Numbered Instance)) → ((made : Numbered Instance) → In made row → IsInRange atoms made)
    → let all = in_row row 0 in IsTrue (are_nodes atoms (length all.1) 0 all.1) × IsTrue (list_all (instance_in_range atoms (length all.1)) all.0)

-- where each is guarded all are
abbrev pub RowsAreGuarded : Type 0
RowsAreGuarded =
    (row : List (Numbered Instance)) → ((made : Numbered Instance) → In made row → IsGuarded made)
    → let all = in_row row 0 in IsTrue (list_all (is_guarded all.1) all.0)
