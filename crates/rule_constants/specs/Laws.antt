-- Laws of constants.
use Rattle.std.specs.Prelude.{◌≡◌, ℕ, List}
use Rattle.tel_term.specs.declared.terms.Term.{Term}
use Rattle.tel_term.specs.declared.terms.Value.{Value}
use Rattle.tel_rule.specs.declared.statements.Statement.{Statement}
use Rattle.tel_rule.specs.declared.statements.Program.{Program}
use Rattle.rule_constants.specs.Constants.{HasValue}
use Rattle.rule_constants.specs.Replaced.{IsReplaced}

-- a definition has at most one value
abbrev pub OneValue : Type 0
OneValue =
    (statements : List Statement) (symbols : List Term) (number : ℕ) (a b : Value) → HasValue statements symbols number a
    → HasValue statements symbols number b → a ≡ b

-- a program has at most one program with its constants replaced
abbrev pub ReplacedIsOne : Type 0
ReplacedIsOne = (program a b : Program) → IsReplaced program a → IsReplaced program b → a ≡ b
