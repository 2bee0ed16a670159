-- A search with one clause more.
use Rattle.std.proofs.Common.{◌≡◌, ℕ, ◌+◌, ◌<◌, ◌≤◌, List, [], ◌∷◌, ◌++◌, length, ap, ◌∙◌, inl, inr, ⊎_elim, arith}
use Rattle.std.specs.Prelude.{Some}
use Rattle.std.proofs.lemmas.Bool.{cases_lt}
use Rattle.std.proofs.lemmas.List.{length-append}
use Rattle.clause_store.specs.Held as held
use Rattle.clause_store.specs.Held.{Held}
use Rattle.lit_trail.specs.Entries.{View}
use Rattle.trail_walk.specs.Ways.{IsReady, IsOnWay}
use Rattle.back_jump.specs.Jumps.{KeepsWay}
use Rattle.cdcl_search.specs.Searches.{Begun, walk_length, kept_of, IsUnderWay, IsSearch}
use Rattle.cdcl_search.proofs.KeptLists.{kept_one}
use Rattle.cdcl_search.proofs.Rooms.{length_wider}

under_way : (begun : Begun) (old new : View) → IsOnWay (walk_length begun) old → KeepsWay old new → IsUnderWay begun new
under_way begun old new way keeps = ⊎_elim (λ (p : 0 < new.level). inr (keeps (walk_length begun) p way)) (λ (z : new.level ≤ 0). inl (omega (arith, z))) (cases_lt 0 new.level)

-- it keeps its invariant, with at most one clause counted more
pub search_one : (store new : held.View) (old trail : View) (scratch more n count : ℕ) (lengths others : List ℕ) (begun : Begun) (one : Held) → IsSearch store old scratch lengths (Some begun) → IsOnWay (walk_length begun) old → IsReady new trail → trail.vars ≡ old.vars → KeepsWay old trail → scratch ≤ more → new.clauses ≡ store.clauses ++ one ∷ [] → others ≡ lengths ++ n ∷ [] → count ≤ begun.counted + 1 → IsSearch new trail more others (Some (record begun { counted = count }))
search_one store new old trail scratch more n count lengths others begun one is way ready vars keeps room clauses same few =
    let before = is.room in
    let each = is.each in
    let held = ap length clauses ∙ length-append store.clauses (one ∷ []) in
    let long = ap length same ∙ length-append lengths (n ∷ []) in
    let counted = is.at.few in
    record {
      ready = ready;
      room = omega (arith, before, vars, room);
      each = omega (arith, each, held, long);
      at = record {
        length = let l = length_wider old.vars trail.vars begun (omega (arith, vars)) is.at.length in record { some = l.some; within = l.within; visible = l.visible; ending = l.ending };
        few = omega (arith, counted, few, held);
        way = under_way begun old trail way keeps;
      };
    }

-- and has the clause with its length at the end
pub kept_more : (held : List Held) (lengths : List ℕ) (new : List Held) (others : List ℕ) (one : Held) (n m : ℕ) → length lengths ≡ length held → new ≡ held ++ one ∷ [] → others ≡ lengths ++ n ∷ [] → n ≡ m → kept_of new others ≡ kept_of held lengths ++ record { kind = one.kind; length = m; lits = one.lits } ∷ []
kept_more held lengths new others one n m each clauses same is =
    ap (λ (hs : List Held). kept_of hs others) clauses
    ∙ ap (kept_of (held ++ one ∷ [])) same
    ∙ kept_one held lengths one n each
    ∙ ap (λ (k : ℕ). kept_of held lengths ++ record { kind = one.kind; length = k; lits = one.lits } ∷ []) is
