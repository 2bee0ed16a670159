use Rattle.std.proofs.Common.{ℕ, ◌+◌, sym, subst, arith}
use Rattle.tel_base.specs.Members.{In}
use Rattle.lit_trail.specs.Unassigned.{visible_below}
use Rattle.cdcl_search.specs.Searches.{Begun, IsLength}
use Rattle.cdcl_search.proofs.Ends.{min_left}
use Rattle.cdcl_search.proofs.advancing.advance.Goals as goal

pub walk-requires-clause-within : goal.walk-requires-clause-within
walk-requires-clause-within c var i =
    let is = subst (λ (b : Begun). IsLength c.args.trail.now.vars b) (sym c.begun.view_is) c.requires.length in
    let space = c.begun.inside.space in
    let within = is.within in
    let vars = c.start.ensures.vars in
    let below = is.visible var (subst (λ (n : ℕ). In var (visible_below space.counts n)) (min_left c.begun.inside.n (space.greatest + 1) (omega (arith, within))) i) in
    omega (arith, below, vars)
