-- Clauses of modules, worked out by hand. In written form a variable counts from 1: the modules 0 and 1 of `a.` with greatest length 2 have the clauses
-- `2 0`, `1 -2 0`, `-1 2 0` and `-3 0`, `-4 0`.
use Rattle.std.proofs.Common.{◌≡◌, ℕ, true, false, [], ◌∷◌, Some, None, refl}
use Rattle.tel_base.specs.declared.literals.Lit.{Lit}
use Rattle.normal_program.specs.declared.modules.BodyHead.TheVariants as uses
use Rattle.normal_program.specs.declared.modules.StepModule.{StepModule}
use Rattle.normal_program.specs.Rules.{rule_of}
use Rattle.normal_program.specs.ModuleClauses.{put_lit, in_order, has_both, clauses_of}

abbrev is_true : ℕ → Lit
is_true var = record { var = var; positive = true }

abbrev is_false : ℕ → Lit
is_false var = record { var = var; positive = false }

abbrev first_of_a : StepModule
first_of_a = record {
  t = 0;
  bodies = record { var = 1; lits = []; head = uses.Normal 0 } ∷ [];
  rules = rule_of (Some 0) false [] (Some 1) ∷ [];
  nodes = [];
  pairs = [];
  atoms = 0 ∷ [];
  open_vars = [];
  end = 2;
  close = None;
}

abbrev second_of_a : StepModule
second_of_a = record {
  t = 1;
  bodies = [];
  rules = [];
  nodes = [];
  pairs = [];
  atoms = 3 ∷ [];
  open_vars = [];
  end = 5;
  close = Some (is_false 2);
}

fact_at_first : clauses_of first_of_a ≡ (is_true 1 ∷ []) ∷ (is_true 0 ∷ is_false 1 ∷ []) ∷ (is_false 0 ∷ is_true 1 ∷ []) ∷ []
unfolding put_lit in_order has_both
fact_at_first = refl

fact_later : clauses_of second_of_a ≡ (is_false 2 ∷ []) ∷ (is_false 3 ∷ []) ∷ []
unfolding put_lit in_order has_both
fact_later = refl
