use Rattle.std.proofs.Common.{◌≤◌, ℕ, Bool, List, ◌∷◌, [], ◌++◌, replicate, false, subst, sym, ap, ◌∙◌, arith}
use Rattle.std.proofs.lemmas.List.{length-map}
use Rattle.tel_term.specs.declared.terms.Term.{Term}
use Rattle.tel_term.specs.declared.terms.Value.{Value}
use Rattle.join_plans.specs.Join.{answers, IsPlan}
use Rattle.plan_search.specs.Steps.{step_of, plan_of}
use Rattle.plan_search.specs.Searching.{kept}
use Rattle.plan_search.proofs.Walked.{one_kept, turn_whole, turn_rise, turn_less, end_whole, end_less, end_rise, all_taken, most_taken}
use Rattle.plan_search.proofs.searching.search.Goals as goal

pub returns-then-len-most : goal.returns-then-len-most
returns-then-len-most g c =
    most_taken (plan_of c.args.tables.now c.args.symbols.now c.args.steps.now) (g.T.BindingTest.passes c.args.test.now c.args.symbols.now) c.args.vars c.args.most c.walking.stack c.walking.env c.walking.found.items (answers (plan_of c.args.tables.now c.args.symbols.now c.args.steps.now) c.args.env)
    c.walking.invariant.few (omega (arith, c.len.ensures, c.walking.found.ok.0, c.if-len-most.true)) c.walking.invariant.whole

pub walking-smaller-in-Continue-branch-2 : goal.walking-smaller-in-Continue-branch-2
walking-smaller-in-Continue-branch-2 g c =
    turn_less (plan_of c.args.tables.now c.args.symbols.now c.args.steps.now) (g.T.BindingTest.passes c.args.test.now c.args.symbols.now) c.args.vars c.walking.stack c.pop.new.self c.turn.new.stack c.in-Some.frame c.walking.env c.turn.new.env c.in-Some.ensures c.in_ok-turn.ensures.turns

pub walking-preserved-in-Continue-branch-2 : goal.walking-preserved-in-Continue-branch-2
walking-preserved-in-Continue-branch-2 g c = record {
  whole =
      turn_whole (plan_of c.args.tables.now c.args.symbols.now c.args.steps.now) (g.T.BindingTest.passes c.args.test.now c.args.symbols.now) c.args.vars c.walking.stack c.pop.new.self c.turn.new.stack c.in-Some.frame c.walking.env c.turn.new.env c.walking.found.items (kept (g.T.BindingTest.passes c.args.test.now c.args.symbols.now) c.args.vars (answers (plan_of c.args.tables.now c.args.symbols.now c.args.steps.now) c.args.env))
      (subst (λ (n : ℕ). IsPlan (replicate n false) (plan_of c.args.tables.now c.args.symbols.now c.args.steps.now)) (sym c.walking.invariant.long) c.requires.plan) c.in-Some.ensures c.walking.invariant.rise c.in_ok-turn.ensures.turns c.walking.invariant.whole;
  few = c.walking.invariant.few;
  long = sym c.in_ok-turn.ensures.turns.turned.stays.long ∙ c.walking.invariant.long;
  terms = c.in_ok-turn.ensures.env;
  same = c.walking.invariant.same;
  can = c.walking.invariant.can;
  rise = turn_rise (plan_of c.args.tables.now c.args.symbols.now c.args.steps.now) (g.T.BindingTest.passes c.args.test.now c.args.symbols.now) c.args.vars c.walking.stack c.pop.new.self c.turn.new.stack c.in-Some.frame c.walking.env c.turn.new.env c.in-Some.ensures c.walking.invariant.rise c.in_ok-turn.ensures.turns;
}

pub walking-smaller : goal.walking-smaller
walking-smaller g c = end_less (plan_of c.args.tables.now c.args.symbols.now c.args.steps.now) (g.T.BindingTest.passes c.args.test.now c.args.symbols.now) c.args.vars c.walking.stack c.pop.new.self c.in-Some.frame c.in-Some.ensures

pub walking-preserved : goal.walking-preserved
walking-preserved g c =
    let same = ap (λ (passes : List Term → List Value → Bool). passes c.args.symbols.now) c.walking.invariant.same in
    let put = c.in_ok-keep.ensures.kept ∙ ap (λ (passes : List Value → Bool). c.walking.found.items ++ kept passes c.args.vars (c.as_slice-else-frame-steps.result.now ∷ [])) same ∙ ap (λ (env : List Value). c.walking.found.items ++ kept (g.T.BindingTest.passes c.args.test.now c.args.symbols.now) c.args.vars (env ∷ [])) c.as_slice-else-frame-steps.ensures in
    record {
      whole =
          end_whole (plan_of c.args.tables.now c.args.symbols.now c.args.steps.now) (g.T.BindingTest.passes c.args.test.now c.args.symbols.now) c.args.vars c.walking.stack c.pop.new.self c.in-Some.frame c.walking.env c.walking.found.items (kept (g.T.BindingTest.passes c.args.test.now c.args.symbols.now) c.args.vars (answers (plan_of c.args.tables.now c.args.symbols.now c.args.steps.now) c.args.env)) c.keep.new.found.items
          (subst (λ (n : ℕ). n ≤ c.in-Some.frame.level) (sym (length-map c.args.steps.now (step_of c.args.tables.now c.args.symbols.now))) c.if-frame-steps.false) c.in-Some.ensures
          put c.walking.invariant.whole;
      few = one_kept (g.T.BindingTest.passes c.args.test.now c.args.symbols.now) c.args.vars c.args.most c.walking.env c.walking.found.items c.keep.new.found.items (omega (arith, c.len.ensures, c.walking.found.ok.0, c.if-len-most.false)) put;
      long = c.walking.invariant.long;
      terms = c.walking.invariant.terms;
      same = c.in_ok-keep.ensures.same ∙ c.walking.invariant.same;
      can = λ terms places can. c.in_ok-keep.ensures.can terms places (c.walking.invariant.can terms places can);
      rise = end_rise (plan_of c.args.tables.now c.args.symbols.now c.args.steps.now) (g.T.BindingTest.passes c.args.test.now c.args.symbols.now) c.args.vars c.walking.stack c.pop.new.self c.in-Some.frame c.in-Some.ensures c.walking.invariant.rise;
    }

pub returns : goal.returns
returns g c =
    all_taken (plan_of c.args.tables.now c.args.symbols.now c.args.steps.now) (g.T.BindingTest.passes c.args.test.now c.args.symbols.now) c.args.vars c.args.most c.walking.stack c.walking.env c.walking.found.items (answers (plan_of c.args.tables.now c.args.symbols.now c.args.steps.now) c.args.env)
    c.walking.invariant.few c.in_default.ensures.0 c.walking.invariant.whole
