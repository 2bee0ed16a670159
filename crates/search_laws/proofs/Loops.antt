-- A loop clause is true in each stable set, and the ends are as they should be.
use Rattle.std.proofs.Common.{◌≡◌, ℕ, ◌≤◌, ◌<◌, true, false, not, List, map, refl, sym, ap, subst, ◌∙◌, inl, ⊎_elim, arith}
use Rattle.std.specs.Prelude.{Option, Some, None}
use Rattle.std.specs.List.{list_all, list_any}
use Rattle.std.proofs.lemmas.Bool.{and_parts, and_from, cases_Bool, not_from_false, false≢true}
use Rattle.tel_base.specs.declared.literals.Lit.{Lit}
use Rattle.tel_base.specs.Literals.{lit_of, negate}
use Rattle.tel_base.proofs.Members.{In, In-list_all, In-append_cases, In-map_from, any_found, any_from}
use Rattle.normal_program.specs.declared.rules.NRule.{NRule}
use Rattle.normal_program.specs.Grounds.{is_head}
use Rattle.normal_program.specs.StableSets.{Set, body_holds, keeps}
use Rattle.clause_store.specs.Closure.{Clause}
use Rattle.unfounded_sets.specs.Unfounded.{head_in, lits_by, body_lits, no_lit}
use Rattle.unfounded_sets.specs.LoopClauses.{is_outside, IsLoopClause}
use Rattle.completion.specs.Completions.{lit_true, clause_true}
use Rattle.completion.specs.Lengths.{fact_of}
use Rattle.completion.proofs.Sets.{stable_supported}
use Rattle.completion.proofs.RuleLists.{some_is}
use Rattle.search_laws.specs.Lengths.{Length, rules_of, pairs_of, IsStableAt, IsValued, Stands}
use Rattle.search_laws.specs.Laws.{AreComposed}
use Rattle.search_laws.proofs.Programs.{lost_part, closed_head}

-- the end is true
pub own_end : (length : Length) (S : Set) → IsStableAt length S → S length.ending ≡ true
own_end length S stable =
    closed_head S (fact_of length.ending) length.ending (In-list_all (keeps S S) (fact_of length.ending) (rules_of length) stable.closed (inl refl)) refl refl refl

-- no other end is
pub other_end : (lengths : ℕ → Length) (n : ℕ) → AreComposed lengths n → (S : Set) → IsStableAt (lengths n) S → (k : ℕ) → 0 < k → k < n → S (lengths k).ending ≡ false
other_end lengths n laid S stable k some short =
    let ending = (lengths k).ending in
    ⊎_elim (λ (t : S ending ≡ true).
    let r = stable_supported (rules_of (lengths n)) (pairs_of (lengths n)) S stable ending t in
    absurd (⊎_elim (λ (e : fact_of (lengths n).ending ≡ r.0).
    laid.ends_differ k some short (sym (some_is (lengths n).ending ending (ap (λ (rule : NRule). rule.head) e ∙ r.2)))) (λ (m : In r.0 (lengths n).ground.rules).
    false≢true (sym (laid.ends_no_heads n k laid.some (omega arith) some (omega (arith, short))) ∙ laid.heads r.0 ending m r.2)) r.1)) (λ f. f) (cases_Bool (S ending))

-- a literal of a body that holds, or the variable that stands for it
literal_true : (lengths : ℕ → Length) (n : ℕ) (S values : Set) (rule : NRule) (head : ℕ) (lit : Lit) → AreComposed lengths n → IsValued (lengths n) S values → In rule (lengths n).ground.rules → rule.head ≡ Some head → body_holds S S rule ≡ true → In lit (body_lits rule) → lit_true values lit ≡ true
literal_true lengths n S values rule head lit laid valued m is body of =
    (elim (rule.body) as (λ (o : Option ℕ). rule.body ≡ o → In lit (lits_by o rule.pos rule.neg) → lit_true values lit ≡ true) [
      | None ↦ λ at i.
          let p = and_parts (list_all S rule.pos) (list_all (λ v. not (S v)) rule.neg) body in
          ⊎_elim (λ (l : In lit (map lit_of rule.pos)).
          let w = In-map_from lit_of lit rule.pos l in
          subst (λ (k : Lit). lit_true values k ≡ true) w.2 (valued.same w.0 (laid.plain_pos rule head w.0 m is at w.1) ∙ In-list_all S w.0 rule.pos p.0 w.1)) (λ (r : In lit (map no_lit rule.neg)).
          let w = In-map_from no_lit lit rule.neg r in
          subst (λ (k : Lit). lit_true values k ≡ true) w.2 (ap not (valued.same w.0 (laid.plain_neg rule head w.0 m is at w.1)) ∙ In-list_all (λ v. not (S v)) w.0 rule.neg p.1 w.1)) (In-append_cases lit (map lit_of rule.pos) (map no_lit rule.neg) i)
      | Some var ↦ λ at i.
          let d = laid.named rule head var m is at in
          ⊎_elim (λ (e : lit_of var ≡ lit). subst (λ (k : Lit). lit_true values k ≡ true) e (sym (ap values d.2) ∙ (valued.bodies d.0 d.1 ∙ (sym (d.3 S) ∙ body)))) (λ none. absurd none) i
    ]) refl of

none_there : (U : Set) (vars : List ℕ) → ((v : ℕ) → In v vars → U v ≡ false) → list_any U vars ≡ false
none_there U vars h =
    ⊎_elim (λ (t : list_any U vars ≡ true). let w = any_found U vars t in absurd (false≢true (sym (h w.0 w.1) ∙ w.2))) (λ f. f) (cases_Bool (list_any U vars))

pub loop_true : (lengths : ℕ → Length) (n : ℕ) (S values : Set) → AreComposed lengths n → Stands (lengths n) S values → (k : ℕ) → 0 < k → k ≤ n → (U : Set) (first : ℕ) (clause : Clause) → IsLoopClause (lengths k).ground U first clause → clause_true values clause ≡ true
loop_true lengths n S values laid stands k some short U first clause loop =
    let plain = laid.plain_heads k first some short (loop.heads first loop.within) in
    let same = stands.valued.same first plain in
    ⊎_elim (λ (t : S first ≡ true).
    let l = lost_part (rules_of (lengths n)) (pairs_of (lengths n)) S U stands.stable first t loop.within in
    let inside : is_head (lengths k).ground.modules l.head ≡ true = loop.heads l.head l.within in
    ⊎_elim (λ (e : fact_of (lengths n).ending ≡ l.rule).
    let at : (lengths n).ending ≡ l.head = some_is (lengths n).ending l.head (ap (λ (rule : NRule). rule.head) e ∙ l.is_head) in
    absurd (false≢true (sym (laid.ends_no_heads k n some short laid.some (omega arith)) ∙ (ap (is_head (lengths k).ground.modules) at ∙ inside)))) (λ (m : In l.rule (lengths n).ground.rules).
    let outside : is_outside U l.rule ≡ true = and_from (head_in U l.rule.head) (not (list_any U l.rule.pos)) (ap (head_in U) l.is_head ∙ l.within) (not_from_false (list_any U l.rule.pos) (none_there U l.rule.pos l.outside)) in
    let found = loop.each l.rule (laid.composed k some short l.rule l.head m l.is_head inside) outside in
    any_from (lit_true values) clause found.0 found.1 (literal_true lengths n S values l.rule l.head found.0 laid stands.valued m l.is_head l.body found.2)) l.inside) (λ (f : S first ≡ false).
    any_from (lit_true values) clause (negate (lit_of first)) loop.negated (not_from_false (values first) (same ∙ f))) (cases_Bool (S first))
