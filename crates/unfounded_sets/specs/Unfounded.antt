-- Unfounded sets of the rules under a trail (Van Gelder, Ross and Schlipf, "The well-founded semantics for general logic programs", 1991).
use Rattle.std.specs.Prelude.{ℕ, Bool, false, not, ◌||◌, List, [], ◌∷◌, ◌++◌, map, Option, Some, None, IsTrue}
use Rattle.std.specs.List.{list_any}
use Rattle.tel_base.specs.declared.literals.Lit.{Lit}
use Rattle.tel_base.specs.Literals.{lit_of, negate}
use Rattle.tel_base.specs.Members.{In}
use Rattle.normal_program.specs.declared.rules.NRule.{NRule}
use Rattle.normal_program.specs.Grounds.{Layers, is_head}
use Rattle.normal_program.specs.StableSets.{Set}
use Rattle.lit_trail.specs.declared.assignment.Entry.{Entry}
use Rattle.lit_trail.specs.Entries.{value_in}

abbrev pub is_no : Option Bool → Bool
is_no None = false
is_no (Some value) = not value

-- whether a literal is false under the trail
abbrev pub is_false : List Entry → Lit → Bool
is_false entries lit = is_no (value_in entries lit)

-- whether a variable is true
abbrev pub is_true : List Entry → ℕ → Bool
is_true entries v = is_false entries (negate (lit_of v))

abbrev pub no_lit : ℕ → Lit
no_lit v = record { var = v; positive = false }

-- the literals of which one is false where a body is: its Body variable, or where it has none those of the body
abbrev pub lits_by : Option ℕ → List ℕ → List ℕ → List Lit
lits_by (Some body) pos neg = lit_of body ∷ []
lits_by None pos neg = map lit_of pos ++ map no_lit neg

abbrev pub body_lits : NRule → List Lit
body_lits rule = lits_by rule.body rule.pos rule.neg

-- whether the body of a rule is false
abbrev pub is_off : List Entry → NRule → Bool
is_off entries rule = list_any (is_false entries) (body_lits rule)

-- whether the head of a rule is in a set
abbrev pub head_in : Set → Option ℕ → Bool
head_in U None = false
head_in U (Some head) = U head

-- head variables of which none is false, where each rule with its head among them has a false body or a positive body atom among them
pub record IsUnfounded (layers : Layers) (entries : List Entry) (U : Set) : Type 0 where
  pub heads : (v : ℕ) → IsTrue (U v) → IsTrue (is_head layers.modules v)
  pub not_false : (v : ℕ) → IsTrue (U v) → IsTrue (not (is_false entries (lit_of v)))
  pub fed : (rule : NRule) → In rule layers.rules → IsTrue (head_in U rule.head) → IsTrue (is_off entries rule || list_any U rule.pos)
