-- A trail that goes back stays on its way.
use Rattle.std.proofs.Common.{◌≡◌, ℕ, zero, suc, ◌-◌, ◌<◌, ◌≤◌, true, List, sym, ap, subst, ◌∙◌, ⊎_elim, arith}
use Rattle.std.specs.List.{find}
use Rattle.std.proofs.lemmas.Bool.{cases_order}
use Rattle.tel_base.specs.declared.literals.Lit.{Lit}
use Rattle.tel_base.specs.Literals.{lit_of}
use Rattle.lit_trail.specs.declared.assignment.Entry.{Entry}
use Rattle.lit_trail.specs.Entries.{View, decision_in, back}
use Rattle.lit_trail.specs.Sound.{holds}
use Rattle.lit_trail.specs.Unassigned.{is_open}
use Rattle.lit_trail.proofs.LevelSteps.{back_back, decision_back}
use Rattle.search_laws.specs.Lengths.{Length}
use Rattle.search_laws.specs.Levels.{AreDecisions}
use Rattle.back_jump.specs.Jumps.{KeepsWay}

-- the decisions of the lower levels
lower_decisions : (length : Length) (entries : List Entry) (m k : ℕ) (decisions : List Lit) → k ≤ m → AreDecisions length entries m decisions → (lower : List Lit) × AreDecisions length entries k lower
lower_decisions length entries zero k decisions l are =
    let same : zero ≡ k = omega (arith, l) in
    (decisions, subst (λ (n : ℕ). AreDecisions length entries n decisions) same are)
lower_decisions length entries (suc m) k decisions l are =
    ⊎_elim (λ (e : k ≡ suc m). (decisions, subst (λ (n : ℕ). AreDecisions length entries n decisions) (sym e) are)) (λ ne. lower_decisions length entries m k are.1 (⊎_elim (λ (low : k < suc m). omega (arith, low)) (λ (high : suc m < k). absurd (omega (arith, high, l))) ne) are.5) (cases_order k (suc m))

-- and they stay
decisions_back : (length : Length) (entries : List Entry) (level m : ℕ) (decisions : List Lit) → suc m ≤ level → AreDecisions length entries m decisions → AreDecisions length (back level entries) m decisions
decisions_back length entries level zero decisions l are = are
decisions_back length entries level (suc m) decisions l are = (
  are.0,
  are.1,
  ap (λ (es : List Entry). find (is_open es) length.visible) (back_back entries (suc m) level (omega (arith, l))) ∙ are.2,
  decision_back entries (suc (suc m)) level l ∙ are.3,
  are.4,
  decisions_back length entries level m are.1 (omega (arith, l)) are.5,
)

pub way_back : (old new : View) (level : ℕ) → level ≤ old.level → new.level ≡ level → new.entries ≡ back level old.entries → KeepsWay old new
way_back old new level low at is length above way =
    let m : ℕ = new.level - 1 in
    let next : new.level ≡ suc m = omega (arith, above) in
    let top = way.level in
    let one : 1 ≤ level = omega (arith, above, at) in
    let lower = lower_decisions length old.entries way.last m way.decisions (omega (arith, next, top, at, low)) way.decided in
    record {
      ended = record {
        holds_there = subst (λ (es : List Entry). holds es (lit_of length.ending) ≡ true) (sym (ap (back 1) is ∙ back_back old.entries 1 level one)) way.ended.holds_there;
        first = λ lit d. way.ended.first lit (sym (ap (λ (es : List Entry). decision_in es 1) is ∙ decision_back old.entries 1 level one) ∙ d);
      };
      last = m;
      level = next;
      decisions = lower.0;
      decided = subst (λ (es : List Entry). AreDecisions length es m lower.0) (sym is) (decisions_back length old.entries level m lower.0 (omega (arith, next, at)) lower.1);
    }
