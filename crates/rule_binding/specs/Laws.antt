-- Laws of binding.
use Rattle.std.specs.Prelude.{◌≡◌, ℕ, Bool, List, [], ◌∷◌, Option, None}
use Rattle.tel_base.specs.Members.{In}
use Rattle.tel_rule.specs.declared.statements.Signature.{Signature}
use Rattle.tel_rule.specs.declared.statements.Statement.{Statement}
use Rattle.rule_binding.specs.Binding.{Equation, Setting, AreSettings, has, possible, first_of, bound_by, IsFirstUnbound}

-- from these bound variables on there are setting equations, in their order
abbrev pub SettingsEnd : Type 0
SettingsEnd = (equations : List Equation) (bound : List ℕ) → (settings : List Setting) × AreSettings equations bound settings

-- and they are one list
abbrev pub SettingsAreOne : Type 0
SettingsAreOne =
    (equations : List Equation) (bound : List ℕ) (a b : List Setting) → AreSettings equations bound a → AreSettings equations bound b → a ≡ b

-- setting equations in some order: each is one that is possible when its turn comes, until none is left
abbrev pub AreInSomeOrder : List Equation → List ℕ → List Setting → Type 0
AreInSomeOrder equations bound [] = first_of (possible (has bound) equations) ≡ None
AreInSomeOrder equations bound (setting ∷ more) = In setting (possible (has bound) equations) × AreInSomeOrder equations (setting.var ∷ bound) more

-- the order of their occurrence is one
abbrev pub SettingsAreInSomeOrder : Type 0
SettingsAreInSomeOrder =
    (equations : List Equation) (bound : List ℕ) (settings : List Setting) → AreSettings equations bound settings → AreInSomeOrder equations bound settings

-- the same variables are bound in every order
abbrev pub OrderBindsTheSame : Type 0
OrderBindsTheSame =
    (equations : List Equation) (bound : List ℕ) (a b : List Setting) → AreInSomeOrder equations bound a → AreInSomeOrder equations bound b
    → (v : ℕ) → has (bound_by bound a) v ≡ has (bound_by bound b) v

-- a statement has one first unbound variable, or none
abbrev pub FirstUnboundIsOne : Type 0
FirstUnboundIsOne =
    (tables : Signature → Bool) (statement : Statement) (a b : Option ℕ) → IsFirstUnbound tables statement a → IsFirstUnbound tables statement b → a ≡ b
