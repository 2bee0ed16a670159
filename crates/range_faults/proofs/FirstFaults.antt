-- First faults, one after another.
use Rattle.std.proofs.Common.{◌≡◌, ◌∙◌, List, [], ◌∷◌, ◌++◌, refl, sym, ap}
use Rattle.std.specs.Prelude.{Ok, Err, Option, Some, None}
use Rattle.std.specs.List.{flat_map}
use Rattle.tel_term.specs.declared.arithmetic.EvalFault.{EvalFault}
use Rattle.tel_term.specs.Arithmetic.{Valued}
use Rattle.tel_rule.specs.declared.statements.Arg.{Arg}
use Rattle.live_instances.specs.Reached.{first_fault, arg_computed}
use Rattle.range_faults.specs.Facts.{first_of}

pub faults_append : (xs ys : List Valued) → first_fault (xs ++ ys) ≡ first_of (first_fault xs) (first_fault ys)
faults_append [] ys = refl
faults_append (Ok value ∷ xs) ys = faults_append xs ys
faults_append (Err fault ∷ xs) ys = refl

first_then : (a b c : Option EvalFault) → first_of (first_of a b) c ≡ first_of a (first_of b c)
first_then None b c = refl
first_then (Some fault) b c = refl

-- what was found so far, then one value, then the rest
pub one_fault : (found : Option EvalFault) (value : Valued) (rest : List Valued) → first_of (first_of found (first_fault (value ∷ []))) (first_fault rest) ≡ first_of found (first_fault (value ∷ rest))
one_fault found value rest = first_then found (first_fault (value ∷ [])) (first_fault rest) ∙ ap (first_of found) (sym (faults_append (value ∷ []) rest))

-- the same of the values of an argument
pub one_arg : (found : Option EvalFault) (arg : Arg) (rest : List Arg) → first_of (first_of found (first_fault (arg_computed arg))) (first_fault (flat_map arg_computed rest)) ≡ first_of found (first_fault (flat_map arg_computed (arg ∷ rest)))
one_arg found arg rest = first_then found (first_fault (arg_computed arg)) (first_fault (flat_map arg_computed rest)) ∙ ap (first_of found) (sym (faults_append (arg_computed arg) (flat_map arg_computed rest)))

pub nothing_later : (found : Option EvalFault) → first_of found None ≡ found
nothing_later None = refl
nothing_later (Some fault) = refl
