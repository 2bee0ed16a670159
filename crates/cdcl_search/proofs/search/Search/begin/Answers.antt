use Rattle.std.proofs.Common.{ap, inl, arith}
use Rattle.cdcl_search.specs.Searches.{View}
use Rattle.cdcl_search.proofs.Rooms.{ready_low}
use Rattle.cdcl_search.proofs.search.Search.begin.Goals as goal

pub invariant_of-self : goal.invariant_of-self
invariant_of-self g c =
    let i = c.self.inside in
    let room = c.self.invariant.room in
    let same = c.back_to.ensures.vars in
    let vars = ap (λ (v : View). v.vars) c.self.view_is in
    let ending = c.requires.ending in
    record {
      ready = ready_low i.store i.trail c.back_to.new.self 0 c.self.invariant.ready c.back_to.ensures.entries c.back_to.ensures.vars c.back_to.ensures.keeps;
      room = omega (arith, room, same);
      each = c.self.invariant.each;
      at = record {
        length = record {
          some = c.requires.some;
          within = c.requires.within;
          visible = λ var inside. let below = c.requires.visible var inside in omega (arith, below, vars, same);
          ending = omega (arith, ending, vars, same);
        };
        few = omega arith;
        way = inl c.back_to.ensures.level;
      };
    }
