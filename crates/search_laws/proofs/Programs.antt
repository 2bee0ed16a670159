-- Rules in a stable set: what a set that isn't closed lacks.
use Rattle.std.proofs.Common.{◌≡◌, ℕ, Bool, true, false, not, ◌&&◌, ◌||◌, List, refl, sym, ap, ◌∙◌, ⊎_elim}
use Rattle.std.specs.Prelude.{Option, Some, None}
use Rattle.std.specs.List.{list_all}
use Rattle.std.proofs.lemmas.Bool.{and_parts, and_from, cases_Bool, or_parts, not-true, not-false, false≢true}
use Rattle.tel_base.proofs.Members.{In, In-list_all, list_all-from_In, all_lost}
use Rattle.normal_program.specs.declared.rules.NRule.{NRule}
use Rattle.normal_program.specs.StableSets.{Set, body_holds, head_kept, keeps, is_closed, IsStable}

-- a rule that a set doesn't keep
pub record Lost (S X : Set) (rule : NRule) : Type 0 where
  pub head : ℕ
  pub is_head : rule.head ≡ Some head
  pub chosen : (rule.choice && not (S head)) ≡ false
  pub lacks : X head ≡ false
  pub body : body_holds X S rule ≡ true

pub lost : (S X : Set) (rule : NRule) → keeps S X rule ≡ false → Lost S X rule
lost S X rule h =
    let p = or_parts (not (body_holds X S rule)) (head_kept S X rule.choice rule.head) h in
    let body = not-false (body_holds X S rule) p.0 in
    (elim (rule.head) as (λ (o : Option ℕ). rule.head ≡ o → head_kept S X rule.choice o ≡ false → Lost S X rule) [
      | None ↦ λ is f. absurd (false≢true (sym f))
      | Some head ↦ λ is f. let q = or_parts (rule.choice && not (S head)) (X head) f in record { head = head; is_head = is; chosen = q.0; lacks = q.1; body = body }
    ]) refl p.1

-- a closed set keeps the rule
pub closed_head : (S : Set) (rule : NRule) (head : ℕ) → keeps S S rule ≡ true → rule.head ≡ Some head → (rule.choice && not (S head)) ≡ false → body_holds S S rule ≡ true → S head ≡ true
closed_head S rule head keep is chosen body =
    let at : (not true || head_kept S S rule.choice (Some head)) ≡ true = sym (λ i. not (body i) || head_kept S S rule.choice (is i)) ∙ keep in
    sym (ap (λ b. b || S head) chosen) ∙ at

-- what a stable set without a part of it loses: a rule with a true body and its head in the part, of which no positive atom is in the part
pub record LostPart (rules : List NRule) (S U : Set) : Type 0 where
  pub rule : NRule
  pub inside : In rule rules
  pub head : ℕ
  pub is_head : rule.head ≡ Some head
  pub within : U head ≡ true
  pub body : body_holds S S rule ≡ true
  pub outside : (v : ℕ) → In v rule.pos → U v ≡ false

pub lost_part : (rules : List NRule) (pairs : List (ℕ × ℕ)) (S U : Set) → IsStable rules pairs S → (v : ℕ) → S v ≡ true → U v ≡ true → LostPart rules S U
lost_part rules pairs S U stable v t inside =
    let X : Set = λ u. S u && not (U u) in
    ⊎_elim (λ (closed : is_closed rules S X ≡ true). let q = and_parts (S v) (not (U v)) (stable.least X closed v t) in absurd (false≢true (sym (ap not inside) ∙ q.1))) (λ (open_ : is_closed rules S X ≡ false).
    let w = all_lost (keeps S X) rules open_ in
    let rule = w.0 in
    let l = lost S X rule w.2 in
    let b = and_parts (list_all X rule.pos) (list_all (λ u. not (S u)) rule.neg) l.body in
    let pos : list_all S rule.pos ≡ true = list_all-from_In S rule.pos (λ u m. (and_parts (S u) (not (U u)) (In-list_all X u rule.pos b.0 m)).0) in
    let body : body_holds S S rule ≡ true = and_from (list_all S rule.pos) (list_all (λ u. not (S u)) rule.neg) pos b.1 in
    let has = closed_head S rule l.head (In-list_all (keeps S S) rule rules stable.closed w.1) l.is_head l.chosen body in
    record {
      rule = rule;
      inside = w.1;
      head = l.head;
      is_head = l.is_head;
      within = not-false (U l.head) (sym (ap (λ (x : Bool). x && not (U l.head)) has) ∙ l.lacks);
      body = body;
      outside = λ u m. not-true (U u) (and_parts (S u) (not (U u)) (In-list_all X u rule.pos b.0 m)).1;
    }) (cases_Bool (is_closed rules S X))
