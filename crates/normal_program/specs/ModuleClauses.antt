-- The clauses of a module: the completion of its rules, read off its bodies, rules, nodes, pairs and open variables (Clark, "Negation as
-- failure", 1978; for the shapes, Tseitin's clauses of a connective).
use Rattle.std.specs.Prelude.{ℕ, ◌+◌, Bool, true, false, ◌||◌, ◌==◌, List, [], ◌∷◌, ◌++◌, map, length, drop, Option, Some, None, nat_lt, if◌then◌else◌}
use Rattle.std.specs.List.{filter, flat_map}
use Rattle.tel_base.specs.declared.literals.Lit.{Lit}
use Rattle.tel_base.specs.Literals.{lit_of, negate, negations}
use Rattle.normal_program.specs.declared.rules.NRule.{NRule}
use Rattle.normal_program.specs.declared.shapes.Shape.{Shape}
use Rattle.normal_program.specs.declared.shapes.Shape.TheVariants as shapes
use Rattle.normal_program.specs.declared.shapes.NodeRule.{NodeRule}
use Rattle.normal_program.specs.declared.modules.BodyHead.{BodyHead}
use Rattle.normal_program.specs.declared.modules.BodyHead.TheVariants as uses
use Rattle.normal_program.specs.declared.modules.BodyDef.{BodyDef}
use Rattle.normal_program.specs.declared.modules.StepModule.{StepModule}

-- ---- in order

-- the place of a literal among all: by variable, the negation before the variable itself
abbrev pub rank : Lit → ℕ
rank lit = lit.var + lit.var + (if lit.positive then 1 else 0)

-- a literal put into a rising list, where it isn't there yet
unfoldable pub put_lit : Lit → List Lit → List Lit
put_lit lit [] = lit ∷ []
put_lit lit (first ∷ more) = if nat_lt (rank lit) (rank first) then lit ∷ first ∷ more else (if rank lit == rank first then first ∷ more else first ∷ put_lit lit more)

-- each literal once, by rising variable
unfoldable pub in_order : List Lit → List Lit
in_order [] = []
in_order (lit ∷ more) = put_lit lit (in_order more)

-- in a rising list, a literal right behind its negation
unfoldable pub has_both : List Lit → Bool
has_both [] = false
has_both (lit ∷ []) = false
has_both (first ∷ second ∷ more) = (first.var == second.var) || has_both (second ∷ more)

-- a clause as it is listed: none, where it holds a literal and its negation
abbrev pub listed : List Lit → List (List Lit)
listed lits = if has_both (in_order lits) then [] else in_order lits ∷ []

-- ---- the clauses, before they are put in order

-- a variable and its negation
abbrev pub no_lit : ℕ → Lit
no_lit var = negate (lit_of var)

-- that the variable x has the value of its shape
abbrev pub shape_clauses : ℕ → Shape → List (List Lit)
shape_clauses x shapes.True = (lit_of x ∷ []) ∷ []
shape_clauses x shapes.False = (no_lit x ∷ []) ∷ []
shape_clauses x (shapes.Is y) = (no_lit x ∷ y ∷ []) ∷ (lit_of x ∷ negate y ∷ []) ∷ []
shape_clauses x (shapes.All ys) = map (λ (y : Lit). no_lit x ∷ y ∷ []) ys ++ (lit_of x ∷ negations ys) ∷ []
shape_clauses x (shapes.Any ys) = map (λ (y : Lit). lit_of x ∷ negate y ∷ []) ys ++ (no_lit x ∷ ys) ∷ []
shape_clauses x (shapes.AllAny y zs) = (no_lit x ∷ y ∷ []) ∷ (no_lit x ∷ zs) ∷ map (λ (z : Lit). lit_of x ∷ negate y ∷ negate z ∷ []) zs
shape_clauses x (shapes.AnyAll y z w) =
    (lit_of x ∷ negate y ∷ []) ∷ (lit_of x ∷ negate z ∷ negate w ∷ []) ∷ (no_lit x ∷ y ∷ z ∷ []) ∷ (no_lit x ∷ y ∷ w ∷ []) ∷ []
shape_clauses x (shapes.Same y z) =
    (no_lit x ∷ negate y ∷ z ∷ []) ∷ (no_lit x ∷ y ∷ negate z ∷ []) ∷ (lit_of x ∷ y ∷ z ∷ []) ∷ (lit_of x ∷ negate y ∷ negate z ∷ []) ∷ []

abbrev pub node_clauses : NodeRule → List (List Lit)
node_clauses node = shape_clauses node.var node.shape

-- what follows from a body of the state: a head of the next state says that the state isn't the end
abbrev pub use_clauses : ℕ → ℕ → BodyHead → List (List Lit)
use_clauses ending body (uses.Normal head) = (lit_of head ∷ no_lit body ∷ []) ∷ []
use_clauses ending body (uses.Choice head) = []
use_clauses ending body uses.Nothing = (no_lit body ∷ []) ∷ []
use_clauses ending body uses.NextNormal = (no_lit body ∷ no_lit ending ∷ []) ∷ []
use_clauses ending body uses.NextChoice = []

-- that the variable of a body has its value, and what follows from it
abbrev pub body_clauses : ℕ → BodyDef → List (List Lit)
body_clauses ending def = map (λ (lit : Lit). no_lit def.var ∷ lit ∷ []) def.lits ++ (lit_of def.var ∷ negations def.lits) ∷ use_clauses ending def.var def.head

-- the bodies of the state that a rule of the module has
abbrev pub gives_rule : BodyHead → Bool
gives_rule uses.NextChoice = false
gives_rule uses.NextNormal = true
gives_rule uses.Nothing = true
gives_rule (uses.Choice head) = true
gives_rule (uses.Normal head) = true

-- the rules with a body of the state before
abbrev pub later_rules : StepModule → List NRule
later_rules step = drop (length (filter (λ (def : BodyDef). gives_rule def.head) step.bodies)) step.rules

-- that the head follows from the body
abbrev pub head_clauses : Bool → Option ℕ → Option ℕ → List (List Lit)
head_clauses false (Some head) (Some body) = (lit_of head ∷ no_lit body ∷ []) ∷ []
head_clauses false (Some head) None = []
head_clauses false None body = []
head_clauses true head body = []

abbrev pub later_clauses : NRule → List (List Lit)
later_clauses rule = head_clauses rule.choice rule.head rule.body

-- the body of a rule, where the rule has this head
abbrev pub body_with : ℕ → Option ℕ → Option ℕ → List ℕ
body_with atom (Some head) (Some body) = if head == atom then body ∷ [] else []
body_with atom (Some head) None = []
body_with atom None body = []

abbrev pub bodies_with : List NRule → ℕ → List ℕ
bodies_with rules atom = flat_map (λ (rule : NRule). body_with atom rule.head rule.body) rules

-- that a true atom is the head of a rule with a true body
abbrev pub support_clause : List NRule → ℕ → List Lit
support_clause rules atom = no_lit atom ∷ map lit_of (bodies_with rules atom)

abbrev pub pair_clause : ℕ × ℕ → List Lit
pair_clause pair = no_lit pair.0 ∷ no_lit pair.1 ∷ []

-- that nothing of the next state holds at the end
abbrev pub open_clause : ℕ → ℕ → List Lit
open_clause ending var = no_lit ending ∷ no_lit var ∷ []

abbrev pub close_clauses : Option Lit → List (List Lit)
close_clauses None = []
close_clauses (Some lit) = (lit ∷ []) ∷ []

-- the clauses of a module before each is put in order
abbrev pub stated_clauses : StepModule → List (List Lit)
stated_clauses step =
    close_clauses step.close
    ++ (flat_map (body_clauses step.end) step.bodies
    ++ (flat_map later_clauses (later_rules step)
    ++ (map (support_clause step.rules) step.atoms
    ++ (flat_map node_clauses step.nodes
    ++ (map pair_clause step.pairs
    ++ map (open_clause step.end) step.open_vars)))))

-- the clauses of a module, in order
abbrev pub clauses_of : StepModule → List (List Lit)
clauses_of step = flat_map listed (stated_clauses step)
