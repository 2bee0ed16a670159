use Rattle.std.proofs.Common.{List, reverse, sym, ap, subst, ◌∙◌, arith}
use Rattle.std.specs.Prelude.{Option, max, vec_capacity}
use Rattle.tel_base.specs.declared.literals.Lit.{Lit}
use Rattle.lit_trail.specs.Levels.{IsTrail}
use Rattle.lit_trail.proofs.LevelSteps.{grow_trail}
use Rattle.lit_trail.proofs.trail.Trail.grow.Goals as goal
use Rattle.lit_trail.proofs.trail.Trail.grow.Goals.{then-vars-gt0+in_ok-reserve, else-vars-gt0}

pub invariant_of-self-2 : goal.invariant_of-self-2
invariant_of-self-2 c =
    let old = c.self.inside.assignment in
    let decisions = c.self.inside.decisions in
    let entries = c.in_ok-grow.ensures.entries in
    let bigger = c.in_ok-grow.ensures.vars in
    let below = c.requires in
    elim c.if-vars-gt0.branch [
      | then-vars-gt0+in_ok-reserve w ↦
          let same = w.self-inside-is in
          let kept = w.in_ok-reserve.ensures.items in
          let room = w.in_ok-reserve.ensures.ok in
          let wider = w.in_ok-reserve.ensures.capacity in
          let trail = subst (λ (ds : List (Option Lit)). IsTrail old (reverse ds) (vec_capacity decisions)) (sym kept) c.self.invariant in
          subst (λ inside. IsTrail c.grow.new.self (reverse inside.decisions.items) (vec_capacity inside.decisions)) (sym same) (grow_trail old c.grow.new.self (reverse w.reserve.new.self.items) (vec_capacity decisions) (vec_capacity w.reserve.new.self) c.args.vars trail (entries ∙ ap (λ inside. inside.assignment.entries) same) (bigger ∙ ap (λ inside. max inside.assignment.vars c.args.vars) same) wider (λ _. omega (arith, room)) below)
      | else-vars-gt0 w ↦
          let same = w.self-inside-is in
          let none = w.if-vars-gt0.false in
          subst (λ inside. IsTrail c.grow.new.self (reverse inside.decisions.items) (vec_capacity inside.decisions)) (sym same) (grow_trail old c.grow.new.self (reverse decisions.items) (vec_capacity decisions) (vec_capacity decisions) c.args.vars c.self.invariant (entries ∙ ap (λ inside. inside.assignment.entries) same) (bigger ∙ ap (λ inside. max inside.assignment.vars c.args.vars) same) (omega arith) (λ l. absurd (omega (arith, l, none))) below)
    ]
