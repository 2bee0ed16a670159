-- Each variable once, in range, and each decision first in its level: what stays when literals come and go.
use Rattle.std.proofs.Common.{◌≡◌, ℕ, ◌<◌, ◌≤◌, true, false, List, [], ◌∷◌, refl, sym, subst, ⊎_elim, arith}
use Rattle.std.specs.Prelude.{None, nat_lt}
use Rattle.std.specs.List.{list_all}
use Rattle.std.proofs.lemmas.Bool.{cases_Bool, and_from, lt-ltb, cond-true, cond-false}
use Rattle.lit_trail.specs.declared.assignment.Entry.{Entry}
use Rattle.lit_trail.specs.Entries.{spot_in, back}
use Rattle.lit_trail.specs.Levels.{AreLevels, AreWithin, AreOrdered}

pub ordered_none : (vars : ℕ) → AreOrdered vars []
ordered_none vars = record { apart = tt; within = tt; opened = tt }

all_below : (top level : ℕ) (entries : List Entry) → AreLevels top entries → top < level → list_all (λ (e : Entry). nat_lt e.level level) entries ≡ true
all_below top level [] h l = refl
all_below top level (entry ∷ older) h l =
    let a = h.0 in
    and_from (nat_lt entry.level level) (list_all (λ (e : Entry). nat_lt e.level level) older) (lt-ltb entry.level level (omega (arith, a, l))) (all_below entry.level level older h.1 (omega (arith, a, l)))

pub ordered_given : (vars : ℕ) (entry : Entry) (older : List Entry) → spot_in older entry.lit.var ≡ None → entry.lit.var < vars → (entry.reason ≡ None → ⊥) → AreOrdered vars older → AreOrdered vars (entry ∷ older)
ordered_given vars entry older free within reason is = record { apart = (free, is.apart); within = (within, is.within); opened = (λ none. absurd (reason none), is.opened) }

pub ordered_decided : (vars top : ℕ) (entry : Entry) (older : List Entry) → spot_in older entry.lit.var ≡ None → entry.lit.var < vars → AreLevels top older → top < entry.level → AreOrdered vars older → AreOrdered vars (entry ∷ older)
ordered_decided vars top entry older free within levels above is =
    record { apart = (free, is.apart); within = (within, is.within); opened = (λ none. (omega (arith, above), all_below top entry.level older levels above), is.opened) }

within_wider : (vars more : ℕ) (entries : List Entry) → vars ≤ more → AreWithin vars entries → AreWithin more entries
within_wider vars more [] l h = tt
within_wider vars more (entry ∷ older) l h = (let a = h.0 in omega (arith, a, l), within_wider vars more older l h.1)

pub ordered_wider : (vars more : ℕ) (entries : List Entry) → vars ≤ more → AreOrdered vars entries → AreOrdered more entries
ordered_wider vars more entries l is = record { apart = is.apart; within = within_wider vars more entries l is.within; opened = is.opened }

-- the entries up to a level are some of the first ones
pub of_back : (P : List Entry → Type 0) (level : ℕ) (entries : List Entry) → ((entry : Entry) (older : List Entry) → P (entry ∷ older) → P older) → P entries → P (back level entries)
of_back P level [] less h = h
of_back P level (entry ∷ older) less h =
    ⊎_elim (λ (t : nat_lt level entry.level ≡ true). subst P (sym (cond-true (nat_lt level entry.level) (back level older) (entry ∷ older) t)) (of_back P level older less (less entry older h))) (λ (f : nat_lt level entry.level ≡ false). subst P (sym (cond-false (nat_lt level entry.level) (back level older) (entry ∷ older) f)) h) (cases_Bool (nat_lt level entry.level))

pub ordered_back : (vars level : ℕ) (entries : List Entry) → AreOrdered vars entries → AreOrdered vars (back level entries)
ordered_back vars level entries is =
    of_back (AreOrdered vars) level entries (λ entry older one. record { apart = one.apart.1; within = one.within.1; opened = one.opened.1 }) is
