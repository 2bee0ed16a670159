-- The completion of a length, made of the modules of its states (Clark, "Negation as failure", 1978), and the modules that their rules settle.
use Rattle.std.specs.Prelude.{◌≡◌, ℕ, zero, suc, ◌-◌, ◌<◌, Bool, true, false, ◌&&◌, List, [], ◌∷◌, ◌++◌, Option, Some, None, IsTrue, ◌⊎◌}
use Rattle.std.specs.List.{list_any, flat_map}
use Rattle.tel_base.specs.declared.literals.Lit.{Lit}
use Rattle.tel_base.specs.Literals.{lit_of}
use Rattle.tel_base.specs.Members.{In}
use Rattle.normal_program.specs.declared.rules.NRule.{NRule}
use Rattle.normal_program.specs.declared.shapes.NodeRule.{NodeRule}
use Rattle.normal_program.specs.declared.modules.BodyHead.{BodyHead}
use Rattle.normal_program.specs.declared.modules.BodyHead.TheVariants as uses
use Rattle.normal_program.specs.declared.modules.BodyDef.{BodyDef}
use Rattle.normal_program.specs.declared.modules.StepModule.{StepModule}
use Rattle.normal_program.specs.Rules.{rule_of}
use Rattle.normal_program.specs.Grounds.{all_rules}
use Rattle.normal_program.specs.StableSets.{Set, lit_holds, lits_hold, body_holds}
use Rattle.normal_program.specs.ModuleClauses.{no_lit}

-- ---- assignments

-- whether a literal is true in an assignment, and whether a clause is
abbrev pub lit_true : Set → Lit → Bool
lit_true S lit = lit_holds S S lit

abbrev pub clause_true : Set → List Lit → Bool
clause_true S clause = list_any (lit_true S) clause

-- ---- modules that their rules settle

-- the rules of a body of the state with this end: a head of the next state says that the state isn't the end
abbrev pub rules_by : ℕ → ℕ → List Lit → BodyHead → List NRule
rules_by ending var lits (uses.Normal head) = rule_of (Some head) false lits (Some var) ∷ []
rules_by ending var lits (uses.Choice head) = rule_of (Some head) true lits (Some var) ∷ []
rules_by ending var lits uses.Nothing = rule_of None false lits (Some var) ∷ []
rules_by ending var lits uses.NextNormal = rule_of None false (lits ++ lit_of ending ∷ []) (Some var) ∷ []
rules_by ending var lits uses.NextChoice = []

abbrev pub own_rules : ℕ → BodyDef → List NRule
own_rules ending def = rules_by ending def.var def.lits def.head

-- a rule for a head of the state t that has a body of the state before
pub record IsLater (steps : ℕ → StepModule) (t : ℕ) (rule : NRule) : Type 0 where
  pub positive : 0 < t
  pub def : BodyDef
  pub before : In def (steps (t - 1)).bodies
  pub head : ℕ
  pub is : rule ≡ rule_of (Some head) rule.choice def.lits (Some def.var)

-- the literal of the end of the state before
abbrev pub close_at : (ℕ → StepModule) → ℕ → Option Lit
close_at steps zero = None
close_at steps (suc t) = Some (no_lit (steps t).end)

-- the rules of the module of the state t are those of its bodies, then those with bodies of the state before; their heads are its atoms
pub record IsSettled (steps : ℕ → StepModule) (t : ℕ) : Type 0 where
  pub later : List NRule
  pub rules : (steps t).rules ≡ flat_map (own_rules (steps t).end) (steps t).bodies ++ later
  pub each_later : (rule : NRule) → In rule later → IsLater steps t rule
  pub heads : (rule : NRule) (head : ℕ) → In rule (steps t).rules → rule.head ≡ Some head → In head (steps t).atoms
  pub close : (steps t).close ≡ close_at steps t

-- the modules before n are settled, no two states have an atom together, no two nodes a variable, and no atom is a node's variable
pub record AreSettled (steps : ℕ → StepModule) (n : ℕ) : Type 0 where
  pub each : (t : ℕ) → t < n → IsSettled steps t
  pub atoms : (t u : ℕ) → t < n → u < n → (atom : ℕ) → In atom (steps t).atoms → In atom (steps u).atoms → t ≡ u
  pub nodes : (t u : ℕ) → t < n → u < n → (node other : NodeRule) → In node (steps t).nodes → In other (steps u).nodes → node.var ≡ other.var → node ≡ other
  pub apart : (t u : ℕ) → t < n → u < n → (atom : ℕ) (node : NodeRule) → In atom (steps t).atoms → In node (steps u).nodes → atom ≡ node.var → ⊥

-- ---- the completion

-- an atom or a node's variable
abbrev pub IsHead : StepModule → ℕ → Type 0
IsHead step var = In var step.atoms ⊎ ((node : NodeRule) × In node step.nodes × (node.var ≡ var))

-- some rule of a state below n has this head and a true body
pub record HasSupport (steps : ℕ → StepModule) (n : ℕ) (S : Set) (var : ℕ) : Type 0 where
  pub state : ℕ
  pub within : state < n
  pub rule : NRule
  pub inside : In rule (all_rules (steps state))
  pub head : rule.head ≡ Some var
  pub body : IsTrue (body_holds S S rule)

-- an assignment that satisfies the completion of the length n and holds no pair whole: the trace ends with the state n - 1 and no earlier
-- one, nothing of the next state holds, each body has its value, no constraint has a true body, rules that are no choices give their heads,
-- and each true atom or node is the head of a rule with a true body
pub record Completes (steps : ℕ → StepModule) (n : ℕ) (S : Set) : Type 0 where
  pub last : IsTrue (S (steps (n - 1)).end)
  pub ends : (t : ℕ) → t < n - 1 → S (steps t).end ≡ false
  pub opens : (var : ℕ) → In var (steps (n - 1)).open_vars → S var ≡ false
  pub bodies : (t : ℕ) → t < n → (def : BodyDef) → In def (steps t).bodies → S def.var ≡ lits_hold S S def.lits
  pub met : (t : ℕ) → t < n → (rule : NRule) → In rule (all_rules (steps t)) → rule.head ≡ None → body_holds S S rule ≡ false
  pub given : (t : ℕ) → t < n → (rule : NRule) (head : ℕ) → In rule (all_rules (steps t)) → rule.choice ≡ false → rule.head ≡ Some head → IsTrue (body_holds S S rule) → IsTrue (S head)
  pub supported : (t : ℕ) → t < n → (var : ℕ) → IsHead (steps t) var → IsTrue (S var) → HasSupport steps n S var
  pub pairs : (t : ℕ) → t < n → (pair : ℕ × ℕ) → In pair (steps t).pairs → (S pair.0 && S pair.1) ≡ false
