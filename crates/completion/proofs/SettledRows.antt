-- The modules 0 and 1 of `a.` with greatest length 2 are settled.
use Rattle.std.proofs.Common.{◌≡◌, ℕ, zero, suc, ◌<◌, false, [], ◌∷◌, refl, ap, ◌∙◌, ⊎_elim, inl, arith}
use Rattle.std.specs.Prelude.{Some, None}
use Rattle.tel_base.specs.Members.{In}
use Rattle.normal_program.specs.declared.rules.NRule.{NRule}
use Rattle.normal_program.specs.declared.shapes.NodeRule.{NodeRule}
use Rattle.normal_program.specs.declared.modules.BodyHead.TheVariants as uses
use Rattle.normal_program.specs.declared.modules.StepModule.{StepModule}
use Rattle.normal_program.specs.Rules.{rule_of}
use Rattle.normal_program.specs.ModuleClauses.{no_lit}
use Rattle.completion.specs.Completions.{IsSettled, AreSettled}
use Rattle.completion.proofs.RuleLists.{some_is}

abbrev steps_of_a : ℕ → StepModule
steps_of_a zero = record {
  t = 0;
  bodies = record { var = 1; lits = []; head = uses.Normal 0 } ∷ [];
  rules = rule_of (Some 0) false [] (Some 1) ∷ [];
  nodes = [];
  pairs = [];
  atoms = 0 ∷ [];
  open_vars = [];
  end = 2;
  close = None;
}
steps_of_a (suc t) = record {
  t = 1;
  bodies = [];
  rules = [];
  nodes = [];
  pairs = [];
  atoms = 3 ∷ [];
  open_vars = [];
  end = 5;
  close = Some (no_lit 2);
}

each_is : (t : ℕ) → t < 2 → IsSettled steps_of_a t
each_is zero l = record {
  later = [];
  rules = refl;
  each_later = λ rule i. absurd i;
  heads = λ rule head i is. ⊎_elim (λ (e : rule_of (Some 0) false [] (Some 1) ≡ rule). inl (some_is 0 head (ap (λ (r : NRule). r.head) e ∙ is))) (λ m. absurd m) i;
  close = refl;
}
each_is (suc zero) l = record {
  later = [];
  rules = refl;
  each_later = λ rule i. absurd i;
  heads = λ rule head i is. absurd i;
  close = refl;
}
each_is (suc (suc t)) l = absurd (omega (arith, l))

one_state : (t u : ℕ) → t < 2 → u < 2 → (atom : ℕ) → In atom (steps_of_a t).atoms → In atom (steps_of_a u).atoms → t ≡ u
one_state zero zero l m atom i j = refl
one_state zero (suc u) l m atom i j = ⊎_elim (λ (e : 0 ≡ atom). ⊎_elim (λ (f : 3 ≡ atom). absurd (omega (arith, e, f))) (λ k. absurd k) j) (λ k. absurd k) i
one_state (suc t) zero l m atom i j = ⊎_elim (λ (e : 3 ≡ atom). ⊎_elim (λ (f : 0 ≡ atom). absurd (omega (arith, e, f))) (λ k. absurd k) j) (λ k. absurd k) i
one_state (suc t) (suc u) l m atom i j = omega (arith, l, m)

pub facts_are_settled : AreSettled steps_of_a 2
facts_are_settled = record {
  each = each_is;
  atoms = one_state;
  nodes = none;
  apart = λ t u l m atom node i j e. no_node u node j;
}
  where
    no_node : (u : ℕ) (node : NodeRule) → In node (steps_of_a u).nodes → ⊥
    no_node zero node i = i
    no_node (suc u) node i = i

    none : (t u : ℕ) → t < 2 → u < 2 → (node other : NodeRule) → In node (steps_of_a t).nodes → In other (steps_of_a u).nodes → node.var ≡ other.var → node ≡ other
    none t u l m node other i j e = absurd (no_node t node i)
