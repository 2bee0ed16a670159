-- Loop clauses (Lin and Zhao, "ASSAT: computing answer sets of a logic program by SAT solvers", 2004), and the answers of a search for unfounded sets.
use Rattle.std.specs.Prelude.{◌≡◌, ℕ, Bool, true, not, ◌&&◌, List, [], ◌∷◌, map, Option, Some, None, IsTrue, nat_lt, ◌==◌, ◌⊎◌}
use Rattle.std.specs.List.{list_all, list_any}
use Rattle.tel_base.specs.declared.literals.Lit.{Lit}
use Rattle.tel_base.specs.Literals.{lit_of, negate}
use Rattle.tel_base.specs.Members.{In}
use Rattle.normal_program.specs.declared.rules.NRule.{NRule}
use Rattle.normal_program.specs.Grounds.{Layers, is_head}
use Rattle.normal_program.specs.StableSets.{Set}
use Rattle.lit_trail.specs.declared.assignment.Entry.{Entry}
use Rattle.unfounded_sets.specs.declared.founded.LoopNogood.{LoopNogood}
use Rattle.unfounded_sets.specs.Unfounded.{is_false, is_true, body_lits, head_in, IsUnfounded}

-- whether a rule supports a set from outside: its head is in the set, and no positive atom of its body
abbrev pub is_outside : Set → NRule → Bool
is_outside U rule = head_in U rule.head && not (list_any U rule.pos)

-- a loop clause of a set of head variables and one of them: the negation of this one, for each rule outside its Body variable, or where it has
-- none one of its body literals, and nothing else
pub record IsLoopClause (layers : Layers) (U : Set) (first : ℕ) (clause : List Lit) : Type 0 where
  pub heads : (v : ℕ) → IsTrue (U v) → IsTrue (is_head layers.modules v)
  pub within : IsTrue (U first)
  pub negated : In (negate (lit_of first)) clause
  pub each : (rule : NRule) → In rule layers.rules → IsTrue (is_outside U rule) → (lit : Lit) × In lit clause × In lit (body_lits rule)
  pub only : (lit : Lit) → In lit clause → (negate (lit_of first) ≡ lit) ⊎ ((rule : NRule) × In rule layers.rules × IsTrue (is_outside U rule) × In lit (body_lits rule))

-- the set of these variables
abbrev pub among : List ℕ → Set
among vars v = list_any (λ u. u == v) vars

-- whether the numbers strictly rise
abbrev pub rises : List ℕ → Bool
rises [] = true
rises (v ∷ more) = list_all (λ u. nat_lt v u) more && rises more

-- an unfounded set, a true variable in it, and a loop clause of both that is false
pub record IsFalseLoop (layers : Layers) (entries : List Entry) (nogood : LoopNogood) : Type 0 where
  pub unfounded : IsUnfounded layers entries (among nogood.set.items)
  pub holds : IsTrue (is_true entries nogood.atom)
  pub loop : IsLoopClause layers (among nogood.set.items) nogood.atom nogood.clause
  pub conflict : IsTrue (list_all (is_false entries) nogood.clause)
  pub set_rises : IsTrue (rises nogood.set.items)
  pub clause_rises : IsTrue (rises (map (λ (lit : Lit). lit.var) nogood.clause))

-- no unfounded set holds a true variable
abbrev pub NoneHolds : Layers → List Entry → Type 0
NoneHolds layers entries = (U : Set) → IsUnfounded layers entries U → (v : ℕ) → IsTrue (U v) → IsTrue (not (is_true entries v))

-- None where no unfounded set holds a true variable, else one that does
abbrev pub Answers : Layers → List Entry → Option LoopNogood → Type 0
Answers layers entries None = NoneHolds layers entries
Answers layers entries (Some nogood) = IsFalseLoop layers entries nogood
