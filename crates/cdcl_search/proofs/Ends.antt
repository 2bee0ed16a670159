-- What the end of a walk says.
use Rattle.std.proofs.Common.{◌≡◌, ℕ, ◌+◌, ◌<◌, ◌≤◌, Bool, true, false, List, [], ◌∷◌, refl, sym, ap, subst, inl, ⊎_elim, arith}
use Rattle.std.specs.Prelude.{min}
use Rattle.tel_base.specs.declared.literals.Lit.{Lit}
use Rattle.tel_base.specs.Literals.{lit_of}
use Rattle.clause_store.specs.declared.store.ClauseId.{ClauseId}
use Rattle.clause_store.specs.Closure.{Clause, Conflict}
use Rattle.lit_trail.specs.Entries.{View}
use Rattle.lit_trail.specs.Unassigned.{visible_below}
use Rattle.search_laws.specs.Walks.{IsClosedWalk}
use Rattle.trail_walk.specs.declared.walking.Walked.TheVariants as outcomes
use Rattle.trail_walk.specs.Ways.{IsEnded, IsOnWay, Opens, Spans, WalkEnds}
use Rattle.cdcl_search.specs.Searches.{Begun, ending_of, walk_length, IsLength, IsUnderWay}
use Rattle.cdcl_search.specs.Advancing.{IsStuck, Starts}

pub min_left : (n m : ℕ) → n ≤ m → min n m ≡ n
min_left n m l = omega (arith, l)

-- the states of the length are those below n
pub spans : (vars : ℕ) (begun : Begun) → IsLength vars begun → Spans begun.space begun.n (walk_length begun)
spans vars begun is =
    let within = is.within in
    ap (visible_below begun.space.counts) (sym (min_left begun.n (begun.space.greatest + 1) (omega (arith, within))))

pub starts_of : (clauses : List Clause) (begun : Begun) (trail : View) (end : Lit) (b : Bool) → end ≡ lit_of (ending_of begun) → Opens b clauses end trail → Starts clauses begun trail b
starts_of clauses begun trail end true e o = record { ended = subst (λ (l : Lit). IsEnded l trail) e o.1; last = 0; level = o.0; decisions = lit_of (ending_of begun) ∷ []; decided = refl }
starts_of clauses begun trail end false e o = (subst (λ (l : Lit). Conflict clauses (l ∷ [])) e o.1, inl o.0)

pub closed_of : (clauses : List Clause) (begun : Begun) (trail : View) (id : ClauseId) → WalkEnds clauses (walk_length begun) trail (outcomes.Conflict id) → trail.level ≡ 1 → IsClosedWalk clauses (ending_of begun)
closed_of clauses begun trail id ends one = ⊎_elim (λ c. c.1) (λ s. absurd (let l = s.0 in omega (arith, l, one))) ends

pub stuck_of : (clauses : List Clause) (begun : Begun) (trail : View) (id : ClauseId) → WalkEnds clauses (walk_length begun) trail (outcomes.Conflict id) → (trail.level ≡ 1 → ⊥) → IsOnWay (walk_length begun) trail → IsStuck clauses begun trail
stuck_of clauses begun trail id ends other way = ⊎_elim (λ c. absurd (other c.0)) (λ s. record { level = s.0; way = way; decisions = s.1.0; walk = s.1.1; derived = s.1.2 }) ends

pub on_way : (begun : Begun) (trail : View) → IsUnderWay begun trail → 0 < trail.level → IsOnWay (walk_length begun) trail
on_way begun trail way l = ⊎_elim (λ z. absurd (omega (arith, z, l))) (λ w. w) way
