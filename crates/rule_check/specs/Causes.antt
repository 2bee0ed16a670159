-- Why a program is refused before it is instantiated: unbound variables, arrows, primes and constants.
use Rattle.std.specs.Prelude.{◌≡◌, ℕ, ◌<◌, Bool, true, false, not, ◌&&◌, ◌||◌, ◌==◌, List, length, Some, slice_get, IsTrue}
use Rattle.std.specs.List.{list_any}
use Rattle.tel_rule.specs.declared.formulas.Atom.{Atom}
use Rattle.tel_rule.specs.declared.formulas.UnaryOp.{UnaryOp}
use Rattle.tel_rule.specs.declared.formulas.UnaryOp.TheVariants as unary
use Rattle.tel_rule.specs.declared.formulas.BinaryOp.{BinaryOp}
use Rattle.tel_rule.specs.declared.formulas.BinaryOp.TheVariants as binary
use Rattle.tel_rule.specs.declared.formulas.Formula.{Formula}
use Rattle.tel_rule.specs.declared.formulas.Formula.TheOpen.{Formula-F}
use Rattle.tel_rule.specs.declared.formulas.Formula.TheOpen as layers
use Rattle.tel_rule.specs.declared.formulas.Formula.TheFolds.{fold-Formula}
use Rattle.tel_rule.specs.declared.statements.Head.{Head}
use Rattle.tel_rule.specs.declared.statements.Head.TheVariants as heads
use Rattle.tel_rule.specs.declared.statements.LitItem.{LitItem}
use Rattle.tel_rule.specs.declared.statements.LitItem.TheVariants as items
use Rattle.tel_rule.specs.declared.statements.Literal.{Literal}
use Rattle.tel_rule.specs.declared.statements.Signature.{Signature}
use Rattle.tel_rule.specs.declared.statements.Kind.{Kind}
use Rattle.tel_rule.specs.declared.statements.Kind.TheVariants as kinds
use Rattle.tel_rule.specs.declared.statements.Statement.{Statement}
use Rattle.tel_rule.specs.declared.statements.Program.{Program}
use Rattle.tel_semantics.specs.Tables.{is_table}
use Rattle.rule_binding.specs.Binding.{IsFirstUnbound}
use Rattle.rule_constants.specs.Constants.{IsFaultyConstant}
use Rattle.rule_check.specs.declared.faults.CheckFault.{CheckFault}
use Rattle.rule_check.specs.declared.faults.CheckFault.TheVariants as causes

-- ---- arrows

-- whether an operator is `~`
abbrev pub is_not : UnaryOp → Bool
is_not unary.Not = true
is_not unary.Previous = false
is_not unary.WeakPrevious = false
is_not unary.AlwaysBefore = false
is_not unary.OnceBefore = false
is_not unary.Initially = false
is_not unary.Next = false
is_not unary.WeakNext = false
is_not unary.AlwaysAfter = false
is_not unary.OnceAfter = false
is_not unary.Finally = false

-- whether an operator is an arrow: `->`, `<-` or `<>`
abbrev pub is_arrow : BinaryOp → Bool
is_arrow binary.Implies = true
is_arrow binary.ImpliedBy = true
is_arrow binary.Same = true
is_arrow binary.Since = false
is_arrow binary.Trigger = false
is_arrow binary.Until = false
is_arrow binary.Release = false

abbrev pub any_holds : List Bool → Bool
any_holds tests = list_any (λ (test : Bool). test) tests

abbrev pub layer_has_arrow : Formula-F Bool → Bool
layer_has_arrow (layers.Const op) = false
layer_has_arrow (layers.Atom atom) = false
layer_has_arrow (layers.Unary op inner) = not (is_not op) && inner
layer_has_arrow (layers.Binary op left right) = is_arrow op || (left || right)
layer_has_arrow (layers.Many op operands) = any_holds operands

-- whether an arrow stands in a formula with no `~` above it
abbrev pub has_arrow : Formula → Bool
has_arrow formula = fold-Formula Bool layer_has_arrow formula

abbrev pub item_has_arrow : LitItem → Bool
item_has_arrow (items.Atom atom) = false
item_has_arrow (items.Tel formula) = has_arrow formula
item_has_arrow (items.Compare relation left right) = false

-- of a literal with `not` nothing is asked
abbrev pub literal_has_arrow : Literal → Bool
literal_has_arrow literal = (literal.nots == 0) && item_has_arrow literal.item

-- of a constraint nothing is asked
abbrev pub rule_has_arrow : Head → List Literal → Bool
rule_has_arrow (heads.Normal atom) body = list_any literal_has_arrow body
rule_has_arrow (heads.Choice atom) body = list_any literal_has_arrow body
rule_has_arrow heads.None body = false

-- the statement has a head, and an arrow in a `&tel` literal without `not`, with no `~` above it
abbrev pub has_bare_arrow : Kind → Bool
has_bare_arrow (kinds.Rule head body) = rule_has_arrow head body
has_bare_arrow (kinds.Facts fact) = false
has_bare_arrow (kinds.Const name expr) = false
has_bare_arrow (kinds.Show shown) = false

-- ---- primes

abbrev pub leads : Atom → Bool
leads atom = not (atom.before == 0)

abbrev pub trails : Atom → Bool
trails atom = not (atom.after == 0)

abbrev pub layer_has_prime : Formula-F Bool → Bool
layer_has_prime (layers.Const op) = false
layer_has_prime (layers.Atom atom) = leads atom || trails atom
layer_has_prime (layers.Unary op inner) = inner
layer_has_prime (layers.Binary op left right) = left || right
layer_has_prime (layers.Many op operands) = any_holds operands

-- whether an atom of a formula has a prime
abbrev pub has_prime : Formula → Bool
has_prime formula = fold-Formula Bool layer_has_prime formula

-- in a body an atom may have leading primes, and inside `&tel` none
abbrev pub item_has_bad_prime : LitItem → Bool
item_has_bad_prime (items.Atom atom) = trails atom
item_has_bad_prime (items.Tel formula) = has_prime formula
item_has_bad_prime (items.Compare relation left right) = false

abbrev pub literal_has_bad_prime : Literal → Bool
literal_has_bad_prime literal = item_has_bad_prime literal.item

-- in a head an atom may have trailing primes
abbrev pub head_has_bad_prime : Head → Bool
head_has_bad_prime (heads.Normal atom) = leads atom
head_has_bad_prime (heads.Choice atom) = leads atom
head_has_bad_prime heads.None = false

abbrev pub has_bad_prime : Kind → Bool
has_bad_prime (kinds.Rule head body) = head_has_bad_prime head || list_any literal_has_bad_prime body
has_bad_prime (kinds.Facts fact) = not (fact.before == 0)
has_bad_prime (kinds.Const name expr) = false
has_bad_prime (kinds.Show shown) = false

-- ---- causes

-- this variable of the statement is the first one that isn't bound
abbrev pub IsUnbound : (Signature → Bool) → Statement → List ℕ → Type 0
IsUnbound tables statement name = (v : ℕ) × IsFirstUnbound tables statement (Some v) × (slice_get statement.vars v ≡ Some name)

-- the statement with this number has this cause, which has the place of the statement
abbrev pub IsCause : Program → ℕ → Statement → CheckFault → Type 0
IsCause program number statement (causes.Unbound place name) = (place ≡ statement.place) × IsUnbound (is_table program.statements) statement name
IsCause program number statement (causes.Arrow place) = (place ≡ statement.place) × IsTrue (has_bare_arrow statement.kind)
IsCause program number statement (causes.Prime place) = (place ≡ statement.place) × IsTrue (has_bad_prime statement.kind)
IsCause program number statement (causes.Const place name) = (place ≡ statement.place) × IsFaultyConstant program.statements program.symbols number statement.kind name
IsCause program number statement causes.Memory = ⊥

-- the order of causes of one statement
abbrev pub rank : CheckFault → ℕ
rank (causes.Unbound place name) = 0
rank (causes.Arrow place) = 1
rank (causes.Prime place) = 2
rank (causes.Const place name) = 3
rank causes.Memory = 4

abbrev pub HasNoCause : Program → ℕ → Statement → Type 0
HasNoCause program number statement = (cause : CheckFault) → IsCause program number statement cause → ⊥

-- of the first statements, so many, none has a cause
abbrev pub HaveNoCause : Program → ℕ → Type 0
HaveNoCause program count =
    (number : ℕ) (statement : Statement) → number < count → slice_get program.statements number ≡ Some statement → HasNoCause program number statement

-- no cause stands in the program
abbrev pub IsSound : Program → Type 0
IsSound program = HaveNoCause program (length program.statements)

-- the first cause of a program: by statement, and within one statement by the order of causes
pub record IsFirstCause (program : Program) (cause : CheckFault) : Type 0 where
  pub number : ℕ
  pub statement : Statement
  pub at : slice_get program.statements number ≡ Some statement
  pub is : IsCause program number statement cause
  pub first : (other : CheckFault) → rank other < rank cause → IsCause program number statement other → ⊥
  pub before : HaveNoCause program number
