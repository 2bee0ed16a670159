use Rattle.std.proofs.Common.{◌≡◌, List, [], ◌∷◌, refl, pos, Option, Some, None, Ok, Err}
use Rattle.std.specs.Result.{result_unwrap_or}
use Rattle.tel_term.specs.declared.terms.Value.{Value}
use Rattle.tel_term.specs.declared.terms.Value.TheVariants as values
use Rattle.tel_term.specs.declared.exprs.Expr.{Expr}
use Rattle.tel_term.specs.Arithmetic.{Valued, expr_value}
use Rattle.live_instances.specs.Instances.{with_value, values_of}
use Rattle.atom_table.specs.Collected.{args_under}
use Rattle.atom_table.proofs.laws.values_of_arguments.Goals as goal

one_more : (value : Valued) (rest : Option (List Value)) (more row : List Value) → ((found : List Value) → rest ≡ Some found → more ≡ found) → with_value value rest ≡ Some row → result_unwrap_or value (values.Num (pos 0)) ∷ more ≡ row
one_more (Ok value) (Some found) more row later is = let rest = later found refl in cc
one_more (Ok value) None more row later is = absurd (cc)
one_more (Err fault) (Some found) more row later is = absurd (cc)
one_more (Err fault) None more row later is = absurd (cc)

args_are : (binding : List Value) (args : List Expr) (row : List Value) → values_of binding args ≡ Some row → args_under binding args ≡ row
args_are binding [] row is = cc
args_are binding (expr ∷ more) row is = one_more (expr_value binding expr) (values_of binding more) (args_under binding more) row (args_are binding more) is

pub returns : goal.returns
returns c = args_are
