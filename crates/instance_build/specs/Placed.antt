-- Nodes among others.
use Rattle.std.specs.Prelude.{◌≡◌, ℕ, List, ◌++◌, length}
use Rattle.tel_rule.specs.declared.nodes.Node.{Node}

-- these nodes stand among all of them, from this number on
pub record Placed (nodes : List Node) (first : ℕ) (mine : List Node) : Type 0 where
  pub front : List Node
  pub back : List Node
  pub whole : nodes ≡ front ++ (mine ++ back)
  pub count : first ≡ length front
