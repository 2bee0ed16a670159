-- The stable sets of normal programs with choices and constraints (Gelfond and Lifschitz; Simons, Niemelä and Soininen for choices). Sets are
-- tests of variables. A set X is judged against a set S: in the reduct by S a negative literal is false where its variable is in S, and a choice
-- rule counts exactly where its head is in S.
use Rattle.std.specs.Prelude.{◌≡◌, ℕ, Bool, true, not, ◌&&◌, ◌||◌, List, Option, Some, None, IsTrue, if◌then◌else◌}
use Rattle.std.specs.List.{list_all, list_any, Contains}
use Rattle.tel_base.specs.declared.literals.Lit.{Lit}
use Rattle.normal_program.specs.declared.rules.NRule.{NRule}
use Rattle.normal_program.specs.declared.shapes.Shape.{Shape}
use Rattle.normal_program.specs.Shapes.{shape_bodies}

-- a set of variables
abbrev pub Set : Type 0
Set = ℕ → Bool

-- whether a literal holds, where positive ones are judged in X and negative ones in S
abbrev pub lit_holds : Set → Set → Lit → Bool
lit_holds X S lit = if lit.positive then X lit.var else not (S lit.var)

-- the same for a body
abbrev pub body_holds : Set → Set → NRule → Bool
body_holds X S rule = list_all X rule.pos && list_all (λ v. not (S v)) rule.neg

-- whether X has what the reduct by S derives: a choice counts where its head is in S
abbrev pub head_kept : Set → Set → Bool → Option ℕ → Bool
head_kept S X choice None = true
head_kept S X choice (Some head) = (choice && not (S head)) || X head

abbrev pub keeps : Set → Set → NRule → Bool
keeps S X rule = not (body_holds X S rule) || head_kept S X rule.choice rule.head

-- whether X is closed under the reduct by S
abbrev pub is_closed : List NRule → Set → Set → Bool
is_closed rules S X = list_all (keeps S X) rules

-- whether a constraint is met; other rules are none
abbrev pub is_met : Set → Bool → Option ℕ → Bool
is_met S body None = not body
is_met S body (Some head) = true

-- S is closed under the reduct by itself, and each variable of it is the head of a rule whose body holds
pub record IsSupported (rules : List NRule) (S : Set) : Type 0 where
  pub closed : IsTrue (is_closed rules S S)
  pub supported : (v : ℕ) → IsTrue (S v) → (rule : NRule) × Contains rules rule × (rule.head ≡ Some v) × IsTrue (body_holds S S rule)

-- S is the least set that is closed under the reduct by S; it meets the constraints and has no pair whole
pub record IsStable (rules : List NRule) (pairs : List (ℕ × ℕ)) (S : Set) : Type 0 where
  pub closed : IsTrue (is_closed rules S S)
  pub least : (X : Set) → IsTrue (is_closed rules S X) → (v : ℕ) → IsTrue (S v) → IsTrue (X v)
  pub met : IsTrue (list_all (λ (rule : NRule). is_met S (body_holds S S rule) rule.head) rules)
  pub apart : IsTrue (list_all (λ (pair : ℕ × ℕ). not (S pair.0 && S pair.1)) pairs)

-- whether all of these literals hold
abbrev pub lits_hold : Set → Set → List Lit → Bool
lits_hold X S lits = list_all (lit_holds X S) lits

-- whether some body of a shape holds
abbrev pub shape_holds : Set → Set → Shape → Bool
shape_holds X S shape = list_any (lits_hold X S) (shape_bodies shape)
