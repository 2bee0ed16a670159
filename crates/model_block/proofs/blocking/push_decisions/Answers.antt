use Rattle.std.proofs.Common.{◌≡◌, ◌++◌, ◌+◌, ℕ, suc, List, reverse, sym, ap, subst, ◌∙◌, arith, append-nil}
use Rattle.tel_base.specs.declared.literals.Lit.{Lit}
use Rattle.std.specs.Prelude.{Option, option_to_list}
use Rattle.tel_base.specs.Literals.{negations}
use Rattle.lit_trail.specs.declared.assignment.Entry.{Entry}
use Rattle.lit_trail.specs.Entries.{back, decision_in}
use Rattle.lit_trail.proofs.LevelSteps.{back_all, back_levels}
use Rattle.model_block.specs.Blocking.{decided_above}
use Rattle.model_block.proofs.DecisionSteps.{none_above, one_level, push_decision}
use Rattle.model_block.proofs.blocking.push_decisions.Goals as goal

pub rising-init : goal.rising-init
rising-init c =
    let trail = c.args.trail.now in
    let none = none_above (back 1 trail.entries) 1 1 (back_levels trail.entries trail.level 1 c.len-count.ensures.levels) (omega arith) in
    (sym (append-nil c.args.lits.now.items) ∙ ap (λ (lits : List Lit). c.args.lits.now.items ++ negations (reverse lits)) (sym none), omega arith, omega arith)

pub rising-preserved : goal.rising-preserved
rising-preserved c =
    let trail = c.args.trail.now in
    let level = c.rising.level in
    let below = c.rising.invariant.1 in
    let top = c.level.ensures in
    let test = c.rising-test.true in
    let next : suc level ≡ level + 1 = omega arith in
    let more = subst (λ (n : ℕ). decided_above 1 (back n trail.entries) ≡ option_to_list (decision_in trail.entries n) ++ decided_above 1 (back level trail.entries)) next (one_level trail.entries 1 level trail.level below c.len-count.ensures.levels c.len-count.ensures.ordered.opened) in (
      c.in_ok-push_negated.ensures
          ∙ ap (λ (lits : List Lit). lits ++ negations (option_to_list c.decision.result)) c.rising.invariant.0
          ∙ sym (push_decision c.args.lits.now.items c.decision.result (decided_above 1 (back level trail.entries)))
          ∙ ap (λ (lits : List Lit). c.args.lits.now.items ++ negations (reverse lits)) (ap (λ (o : Option Lit). option_to_list o ++ decided_above 1 (back level trail.entries)) c.decision.ensures ∙ sym more),
      omega arith,
      omega (arith, below, top, test),
    )

pub returns : goal.returns
returns c =
    let trail = c.args.trail.now in
    let top = c.level.ensures in
    let test = c.rising-test.false in
    let all = back_all trail.entries trail.level c.rising.level c.len-count.ensures.levels (omega (arith, top, test)) in
    c.rising.invariant.0 ∙ ap (λ (entries : List Entry). c.args.lits.now.items ++ negations (reverse (decided_above 1 entries))) all
