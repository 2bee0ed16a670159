-- Worked rows: arrows and primes of statements.
use Rattle.std.proofs.Common.{◌≡◌, ℕ, true, false, List, [], ◌∷◌, refl}
use Rattle.std.specs.Prelude.{codes}
use Rattle.tel_rule.specs.declared.formulas.Atom.{Atom}
use Rattle.tel_rule.specs.declared.statements.Head.TheVariants as heads
use Rattle.tel_rule.specs.declared.statements.LitItem.TheVariants as items
use Rattle.tel_rule.specs.declared.statements.Literal.{Literal}
use Rattle.tel_rule.specs.declared.statements.Kind.TheVariants as kinds
use Rattle.rule_check.specs.Causes.{has_bare_arrow, has_bad_prime}

-- p with so many primes before and behind it
abbrev atom : ℕ → ℕ → Atom
atom before after = record { negative = false; before = before; name = codes "p"; after = after; args = [] }

abbrev literal : ℕ → Atom → Literal
literal nots said = record { nots = nots; item = items.Atom said }

-- a constraint may have arrows
constraint : (body : List Literal) → has_bare_arrow (kinds.Rule heads.None body) ≡ false
constraint body = refl

-- `:- 'p.`, `:- p'.` and `:- not p'.`
before_in_body : has_bad_prime (kinds.Rule heads.None (literal 0 (atom 1 0) ∷ [])) ≡ false
before_in_body = refl

behind_in_body : has_bad_prime (kinds.Rule heads.None (literal 0 (atom 0 1) ∷ [])) ≡ true
behind_in_body = refl

behind_not : has_bad_prime (kinds.Rule heads.None (literal 1 (atom 0 1) ∷ [])) ≡ true
behind_not = refl

-- `p' :- .`, `'p :- .` and `{'p}.`
behind_in_head : has_bad_prime (kinds.Rule (heads.Normal (atom 0 1)) []) ≡ false
behind_in_head = refl

before_in_head : has_bad_prime (kinds.Rule (heads.Normal (atom 1 0)) []) ≡ true
before_in_head = refl

before_in_choice : has_bad_prime (kinds.Rule (heads.Choice (atom 1 0)) []) ≡ true
before_in_choice = refl
