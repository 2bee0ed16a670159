use Rattle.std.proofs.Common.{◌≡◌, ℕ, List, Option, length, ap, subst, ◌∙◌}
use Rattle.tel_rule.specs.declared.statements.Statement.{Statement}
use Rattle.rule_constants.specs.Constants.{links_of}
use Rattle.rule_constants.specs.Operands.{by_number}
use Rattle.rule_constants.specs.Solving.{AreSound, AreFine, IsFirstUnfit}
use Rattle.rule_constants.proofs.Definitions.{are_values, sound_constants, first_faulty}
use Rattle.rule_constants.proofs.constants.find_constants.Goals as goal

pub returns-in-Ok-solve_all-clause-values : goal.returns-in-Ok-solve_all-clause-values
returns-in-Ok-solve_all-clause-values c =
    let P = c.args.program.now.statements in
    let Y = c.args.program.now.symbols in
    let K = by_number c.in-Ok-solve_all.values.items in
    let s = c.as_slice-statements.ensures in
    let l : c.as_slice.result.now ≡ links_of P Y = c.as_slice.ensures.value ∙ c.in-Ok-links.ensures ∙ ap (λ (S : List Statement). links_of S Y) s in
    let here = subst (λ (S : List Statement). AreSound S c.as_slice.result.now K × AreFine S K (length S)) s c.in-Ok-solve_all.ensures.ok in
    let ok = subst (λ (L : List (Option ℕ)). AreSound P L K × AreFine P K (length P)) l here in
    are_values P Y K ok.0 ok.1

pub returns-in-Ok-solve_all-clause-sound : goal.returns-in-Ok-solve_all-clause-sound
returns-in-Ok-solve_all-clause-sound c =
    let P = c.args.program.now.statements in
    let Y = c.args.program.now.symbols in
    let K = by_number c.in-Ok-solve_all.values.items in
    let s = c.as_slice-statements.ensures in
    let l : c.as_slice.result.now ≡ links_of P Y = c.as_slice.ensures.value ∙ c.in-Ok-links.ensures ∙ ap (λ (S : List Statement). links_of S Y) s in
    let here = subst (λ (S : List Statement). AreSound S c.as_slice.result.now K × AreFine S K (length S)) s c.in-Ok-solve_all.ensures.ok in
    let ok = subst (λ (L : List (Option ℕ)). AreSound P L K × AreFine P K (length P)) l here in
    sound_constants P Y K (length P) ok.0 ok.1

pub returns-clause-fault : goal.returns-clause-fault
returns-clause-fault c = λ number is.
    let P = c.args.program.now.statements in
    let Y = c.args.program.now.symbols in
    let s = c.as_slice-statements.ensures in
    let l : c.as_slice.result.now ≡ links_of P Y = c.as_slice.ensures.value ∙ c.in-Ok-links.ensures ∙ ap (λ (S : List Statement). links_of S Y) s in
    let here = subst (λ (S : List Statement). IsFirstUnfit S c.as_slice.result.now number) s (c.in-Err-solve_all.ensures.fault number is) in
    first_faulty P Y number (subst (λ (L : List (Option ℕ)). IsFirstUnfit P L number) l here)
