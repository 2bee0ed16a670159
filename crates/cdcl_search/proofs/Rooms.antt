-- More room, and what stays.
use Rattle.std.proofs.Common.{◌≡◌, ℕ, ◌≤◌, true, List, [], ◌∷◌, length, refl, sym, ap, subst, ◌∙◌, inl, inr, ⊎_elim, arith}
use Rattle.std.specs.Prelude.{Option, Some, None, nat_lt, ◌&&◌}
use Rattle.std.specs.List.{list_all}
use Rattle.std.proofs.lemmas.Bool.{and_parts, and_from, lt-ltb, ltb-true}
use Rattle.tel_base.specs.declared.literals.Lit.{Lit}
use Rattle.tel_base.specs.Literals.{lit_of}
use Rattle.tel_base.proofs.Members.{In-list_all, list_all-from_In}
use Rattle.clause_store.specs.Held as held
use Rattle.clause_store.specs.Held.{Held, clauses_in, lacks, are_distinct, is_clause}
use Rattle.clause_store.specs.Closure.{Clause}
use Rattle.lit_trail.specs.declared.assignment.Entry.{Entry}
use Rattle.lit_trail.specs.Entries.{View, back, decision_in}
use Rattle.lit_trail.specs.Levels.{AreWithin}
use Rattle.lit_trail.specs.Sound.{holds, IsSound, Keeps}
use Rattle.lit_trail.proofs.Ordered.{of_back}
use Rattle.watch_propagate.specs.Propagation.{are_below}
use Rattle.search_laws.specs.Lengths.{Length}
use Rattle.search_laws.specs.Levels.{AreDecisions}
use Rattle.trail_walk.specs.Ways.{IsReady, IsOnWay}
use Rattle.trail_walk.proofs.WaySteps.{within_wider}
use Rattle.cdcl_search.specs.Searches.{Begun, walk_length, IsLength, HasBegun, IsSearch}

below_wider : (vars more : ℕ) (clauses : List Clause) → vars ≤ more → are_below vars clauses ≡ true → are_below more clauses ≡ true
below_wider vars more clauses l h =
    list_all-from_In (λ (clause : Clause). list_all (λ (lit : Lit). nat_lt lit.var more) clause) clauses (λ clause i.
    let below = In-list_all (λ (c : Clause). list_all (λ (lit : Lit). nat_lt lit.var vars) c) clause clauses h i in
    list_all-from_In (λ (lit : Lit). nat_lt lit.var more) clause (λ lit j.
    let small = ltb-true lit.var vars (In-list_all (λ (k : Lit). nat_lt k.var vars) lit clause below j) in
    lt-ltb lit.var more (omega (arith, small, l))))

pub ready_wider : (store new : held.View) (old trail : View) → IsReady store old → new.clauses ≡ store.clauses → store.vars ≤ new.vars → trail.entries ≡ old.entries → old.vars ≤ trail.vars → trail.vars ≤ new.vars → Keeps old trail → IsReady new trail
ready_wider store new old trail ready clauses vars entries wider reserved keeps = record {
  sound = subst (λ (hs : List Held). IsSound (clauses_in hs) trail) (sym clauses) (keeps (clauses_in store.clauses) ready.sound);
  below = subst (λ (hs : List Held). are_below trail.vars (clauses_in hs) ≡ true) (sym clauses) (below_wider old.vars trail.vars (clauses_in store.clauses) wider ready.below);
  known = subst (λ (es : List Entry). AreWithin new.vars es) (sym entries) (within_wider store.vars new.vars old.entries vars ready.known);
  reserved = reserved;
}

-- ---- the way

way_entries : (length : Length) (old new : View) → new.entries ≡ old.entries → new.level ≡ old.level → IsOnWay length old → IsOnWay length new
way_entries length old new entries level way = record {
  ended = record {
    holds_there = subst (λ (es : List Entry). holds (back 1 es) (lit_of length.ending) ≡ true) (sym entries) way.ended.holds_there;
    first = λ lit is. way.ended.first lit (ap (λ (es : List Entry). decision_in es 1) (sym entries) ∙ is);
  };
  last = way.last;
  level = level ∙ way.level;
  decisions = way.decisions;
  decided = subst (λ (es : List Entry). AreDecisions length es way.last way.decisions) (sym entries) way.decided;
}

pub length_wider : (vars more : ℕ) (begun : Begun) → vars ≤ more → IsLength vars begun → IsLength more begun
length_wider vars more begun l is = record {
  some = is.some;
  within = is.within;
  visible = λ var i. let below = is.visible var i in omega (arith, below, l);
  ending = let below = is.ending in omega (arith, below, l);
}

pub begun_same : (vars more count : ℕ) (old new : View) (begun : Option Begun) → vars ≤ more → new.entries ≡ old.entries → new.level ≡ old.level → HasBegun vars count old begun → HasBegun more count new begun
begun_same vars more count old new None l entries level is = tt
begun_same vars more count old new (Some begun) l entries level is = record {
  length = length_wider vars more begun l is.length;
  few = is.few;
  way = ⊎_elim (λ z. inl (level ∙ z)) (λ way. inr (way_entries (walk_length begun) old new entries level way)) is.way;
}

-- at level 0
pub begun_low : (vars more count wider : ℕ) (old new : View) (begun : Option Begun) → vars ≤ more → count ≤ wider → new.level ≡ 0 → HasBegun vars count old begun → HasBegun more wider new begun
begun_low vars more count wider old new None l k low is = tt
begun_low vars more count wider old new (Some begun) l k low is = record {
  length = length_wider vars more begun l is.length;
  few = let few = is.few in omega (arith, few, k);
  way = inl low;
}

-- ---- the search

pub ready_low : (store : held.View) (old new : View) (level : ℕ) → IsReady store old → new.entries ≡ back level old.entries → new.vars ≡ old.vars → Keeps old new → IsReady store new
ready_low store old new level ready entries vars keeps = record {
  sound = keeps (clauses_in store.clauses) ready.sound;
  below = subst (λ (n : ℕ). are_below n (clauses_in store.clauses) ≡ true) (sym vars) ready.below;
  known = subst (λ (es : List Entry). AreWithin store.vars es) (sym entries) (of_back (AreWithin store.vars) level old.entries (λ entry older within. within.1) ready.known);
  reserved = let r = ready.reserved in omega (arith, r, vars);
}

pub search_wider : (store new : held.View) (old trail : View) (scratch more : ℕ) (lengths others : List ℕ) (begun : Option Begun) → IsSearch store old scratch lengths begun → IsReady new trail → trail.vars ≤ more → others ≡ lengths → new.clauses ≡ store.clauses → trail.entries ≡ old.entries → trail.level ≡ old.level → old.vars ≤ trail.vars → IsSearch new trail more others begun
search_wider store new old trail scratch more lengths others begun is ready room same clauses entries level wider = record {
  ready = ready;
  room = room;
  each = ap length same ∙ is.each ∙ sym (ap length clauses);
  at = subst (λ (n : ℕ). HasBegun trail.vars n trail begun) (sym (ap length clauses)) (begun_same old.vars trail.vars (length store.clauses) old trail begun wider entries level is.at);
}

distinct_wider : (vars more : ℕ) (lits : List Lit) → vars ≤ more → are_distinct vars lits ≡ true → are_distinct more lits ≡ true
distinct_wider vars more [] l d = refl
distinct_wider vars more (lit ∷ rest) l d =
    let a = and_parts (nat_lt lit.var vars) (lacks lit.var rest && are_distinct vars rest) d in
    let b = and_parts (lacks lit.var rest) (are_distinct vars rest) a.1 in
    let small = ltb-true lit.var vars a.0 in
    and_from (nat_lt lit.var more) (lacks lit.var rest && are_distinct more rest) (lt-ltb lit.var more (omega (arith, small, l))) (and_from (lacks lit.var rest) (are_distinct more rest) b.0 (distinct_wider vars more rest l b.1))

pub clauses_wider : (vars more : ℕ) (clauses : List Clause) → vars ≤ more → list_all (is_clause vars) clauses ≡ true → list_all (is_clause more) clauses ≡ true
clauses_wider vars more clauses l h =
    list_all-from_In (is_clause more) clauses (λ clause i.
    let both = and_parts (nat_lt 0 (length clause)) (are_distinct vars clause) (In-list_all (is_clause vars) clause clauses h i) in
    and_from (nat_lt 0 (length clause)) (are_distinct more clause) both.0 (distinct_wider vars more clause l both.1))
