-- The program that `check` makes is the one with its constants replaced.
use Rattle.std.proofs.Common.{◌≡◌, ℕ, List, Option, map, ap, ◌∙◌, refl}
use Rattle.tel_term.specs.declared.terms.Value.{Value}
use Rattle.tel_rule.specs.declared.statements.Statement.{Statement}
use Rattle.tel_rule.specs.declared.statements.Program.{Program}
use Rattle.rule_constants.specs.Constants.{links_of, replacement}
use Rattle.rule_constants.specs.Operands.{by_number}
use Rattle.rule_constants.specs.Replaced.{AreValues, IsReplaced, statement_replaced}

pub is_replaced : (program : Program) (L : List (Option ℕ)) (K K' : List (Option Value)) (S new : List Statement) → L ≡ links_of program.statements program.symbols → K ≡ K' → S ≡ program.statements → AreValues program.statements program.symbols (by_number K') → new ≡ map (statement_replaced (replacement L (by_number K))) S → IsReplaced program (record { statements = new; symbols = program.symbols })
is_replaced program L K K' S new l k s values is =
    record {
      known = by_number K';
      values = values;
      statements = is
          ∙ ap (λ (x : List (Option ℕ)). map (statement_replaced (replacement x (by_number K))) S) l
          ∙ ap (λ (x : List (Option Value)). map (statement_replaced (replacement (links_of program.statements program.symbols) (by_number x))) S) k
          ∙ ap (λ (x : List Statement). map (statement_replaced (replacement (links_of program.statements program.symbols) (by_number K'))) x) s;
      symbols = refl;
    }
