-- The loop of `p :- &tel { >? q }.` (always) and `q :- 'p.` (dynamic) at length 2, worked out by hand. The variables of state 0 are p 0, q 1, the node 2,
-- two bodies 3 and 4, and the end 5; those of state 1 are 6 to 11; 14 is the node at state 2.
use Rattle.std.proofs.Common.{◌≡◌, ℕ, Bool, true, false, not, ◌||◌, List, [], ◌∷◌, refl, sym, subst, inl, inr, ◌∙◌, ⊎_elim}
use Rattle.std.specs.Prelude.{◌==◌, Some, None}
use Rattle.std.specs.List.{filter, list_all, list_any}
use Rattle.std.proofs.lemmas.Bool.{or_cases, eqb-true, false≢true, not-true}
use Rattle.tel_base.specs.declared.literals.Lit.{Lit}
use Rattle.tel_base.specs.Literals.{lit_of, negate}
use Rattle.clause_store.specs.Closure.{In, same_lit}
use Rattle.clause_store.proofs.Closures.{same_lit-true}
use Rattle.tel_base.proofs.Members.{In-list_all, any_found}
use Rattle.normal_program.specs.declared.rules.NRule.{NRule}
use Rattle.normal_program.specs.declared.shapes.Shape.TheVariants as shapes
use Rattle.normal_program.specs.declared.modules.ModuleParts.{ModuleParts}
use Rattle.normal_program.specs.Grounds.{Layers, is_head}
use Rattle.normal_program.specs.StableSets.{Set}
use Rattle.lit_trail.specs.declared.assignment.Entry.{Entry}
use Rattle.unfounded_sets.specs.Unfounded.{is_false, is_true, is_off, body_lits, head_in, IsUnfounded}
use Rattle.unfounded_sets.specs.LoopClauses.{is_outside, IsLoopClause, among, rises}

abbrev rule : ℕ → ℕ → NRule
rule head atom = record { head = Some head; choice = false; pos = atom ∷ []; neg = []; body = None }

abbrev rule_by : ℕ → ℕ → ℕ → NRule
rule_by head atom body = record { head = Some head; choice = false; pos = atom ∷ []; neg = []; body = Some body }

abbrev parts : ℕ → ℕ → ℕ → ℕ → ℕ → ModuleParts
parts p q node later end = record {
  bodies = [];
  nodes = record { var = node; shape = shapes.Any (lit_of q ∷ lit_of later ∷ []) } ∷ [];
  pairs = [];
  atoms = p ∷ q ∷ [];
  open_vars = later ∷ [];
  end = end;
  close = None;
}

abbrev loop_rules : List NRule
loop_rules = rule_by 0 2 3 ∷ rule 2 1 ∷ rule 2 8 ∷ rule_by 6 8 9 ∷ rule_by 7 0 10 ∷ rule 8 7 ∷ rule 8 14 ∷ []

abbrev loop : Layers
loop = record { rules = loop_rules; modules = parts 0 1 2 8 5 ∷ parts 6 7 8 14 11 ∷ [] }

abbrev entry : Lit → Entry
entry lit = record { lit = lit; level = 0; reason = None }

abbrev trail : List Entry
trail =
    entry (negate (lit_of 14)) ∷ entry (negate (lit_of 5)) ∷ entry (negate (lit_of 1)) ∷ entry (lit_of 11) ∷ entry (lit_of 10) ∷ entry (lit_of 9) ∷ entry (lit_of 8) ∷ entry (lit_of 7) ∷ entry (lit_of 6) ∷ entry (lit_of 3) ∷ entry (lit_of 2) ∷ entry (lit_of 0) ∷ []

abbrev both_states : List ℕ
both_states = 0 ∷ 2 ∷ 7 ∷ 8 ∷ []

abbrev all_but_q : List ℕ
all_but_q = 0 ∷ 2 ∷ 6 ∷ 7 ∷ 8 ∷ []

-- ---- an unfounded set by tests

abbrev is_fed : List Entry → Set → NRule → Bool
is_fed entries U rule = not (head_in U rule.head) || (is_off entries rule || list_any U rule.pos)

by_tests : (layers : Layers) (entries : List Entry) (vars : List ℕ) → list_all (is_head layers.modules) vars ≡ true → list_all (λ v. not (is_false entries (lit_of v))) vars ≡ true → list_all (is_fed entries (among vars)) layers.rules ≡ true → IsUnfounded layers entries (among vars)
by_tests layers entries vars heads free fed = record {
  heads = λ v h. let w = any_found (λ u. u == v) vars h in subst (λ (u : ℕ). is_head layers.modules u ≡ true) (eqb-true w.0 v w.2) (In-list_all (is_head layers.modules) w.0 vars heads w.1);
  not_false = λ v h. let w = any_found (λ u. u == v) vars h in subst (λ (u : ℕ). not (is_false entries (lit_of u)) ≡ true) (eqb-true w.0 v w.2) (In-list_all (λ u. not (is_false entries (lit_of u))) w.0 vars free w.1);
  fed = λ rule i h. ⊎_elim (λ n. absurd (false≢true (sym (not-true (head_in (among vars) rule.head) n) ∙ h))) (λ f. f) (or_cases (not (head_in (among vars) rule.head)) (is_off entries rule || list_any (among vars) rule.pos) (In-list_all (is_fed entries (among vars)) rule layers.rules fed i));
}

through_both : IsUnfounded loop trail (among both_states)
through_both = by_tests loop trail both_states refl refl refl

with_p : IsUnfounded loop trail (among all_but_q)
with_p = by_tests loop trail all_but_q refl refl refl

-- the part in state 0 alone isn't one, since the node there is supported by the one of state 1
state_alone : is_fed trail (among (0 ∷ 2 ∷ [])) (rule 2 8) ≡ false
state_alone = refl

-- nor is one with q of state 0, which is false
false_one : is_false trail (lit_of 1) ≡ true
false_one = refl

-- ---- its loop clause

abbrev outside : List NRule → List NRule
outside rules = filter (is_outside (among all_but_q)) rules

two_outside : outside loop_rules ≡ rule 2 1 ∷ rule 8 14 ∷ []
two_outside = refl

-- without the rules of the node at state 1 there is one less
one_outside : outside (rule_by 0 2 3 ∷ rule 2 1 ∷ rule 2 8 ∷ rule_by 6 8 9 ∷ rule_by 7 0 10 ∷ []) ≡ rule 2 1 ∷ []
one_outside = refl

abbrev clause : List Lit
clause = negate (lit_of 0) ∷ lit_of 1 ∷ lit_of 14 ∷ []

abbrev is_named : NRule → Bool
is_named rule = not (is_outside (among all_but_q) rule) || list_any (λ (lit : Lit). list_any (same_lit lit) (body_lits rule)) clause

named : (rule : NRule) → In rule loop_rules → is_outside (among all_but_q) rule ≡ true → (lit : Lit) × In lit clause × In lit (body_lits rule)
named rule i out =
    ⊎_elim (λ n. absurd (false≢true (sym (not-true (is_outside (among all_but_q) rule) n) ∙ out))) (λ some.
    let w = any_found (λ (lit : Lit). list_any (same_lit lit) (body_lits rule)) clause some in
    let b = any_found (same_lit w.0) (body_lits rule) w.2 in
    (w.0, w.1, subst (λ (lit : Lit). In lit (body_lits rule)) (sym (same_lit-true w.0 b.0 b.2)) b.1)) (or_cases (not (is_outside (among all_but_q) rule)) (list_any (λ (lit : Lit). list_any (same_lit lit) (body_lits rule)) clause) (In-list_all is_named rule loop_rules refl i))

its_clause : IsLoopClause loop (among all_but_q) 0 clause
its_clause = record {
  heads = with_p.heads;
  within = refl;
  negated = inl refl;
  each = named;
  only = λ lit i.
      ⊎_elim (λ e. inl e) (λ more. ⊎_elim (λ e. inr (rule 2 1, inr (inl refl), refl, inl e)) (λ last. ⊎_elim (λ e. inr (rule 8 14, inr (inr (inr (inr (inr (inr (inl refl)))))), refl, inl e)) (λ none. absurd none) last) more) i;
}

all_false : list_all (is_false trail) clause ≡ true
all_false = refl

atom_true : is_true trail 0 ≡ true
atom_true = refl

in_order : rises (0 ∷ 1 ∷ 14 ∷ []) ≡ true
in_order = refl

not_in_order : rises (0 ∷ 14 ∷ 14 ∷ []) ≡ false
not_in_order = refl
