-- Demands that never come to anything, where no atom that fails a test is true, change no temporal equilibrium model.
use Rattle.std.proofs.Common.{◌≡◌, ◌⊎◌, ℕ, ◌+◌, ◌<◌, Bool, true, false, not, ◌&&◌, ◌||◌, refl, sym, ap, ◌∙◌, subst, ⊎_elim}
use Rattle.std.specs.Prelude.{IsTrue, nat_lt}
use Rattle.std.proofs.lemmas.Bool.{and_parts, and_from, and_left, and_right, or_cases, or_left, or_right, cases_Bool, false≢true, true≢false}
use Rattle.tel_semantics.specs.Formula.{FormulaOver, Atom, And, Or, Arrow, Next, negation}
use Rattle.tel_semantics.specs.Satisfaction.{sat}
use Rattle.tel_semantics.specs.Theory.{DemandOver, is_demanded}
use Rattle.theory_lists.specs.Atoms.{TermAtom}
use Rattle.all_instances.specs.Traces.{Trace, IsBelow, IsModel, IsEquilibrium}
use Rattle.all_instances.proofs.Persisting.{persists, negation_there, meets-at, meets-from}

abbrev pub Test : Type 0
Test = TermAtom → Bool

abbrev pub Form : Type 0
Form = FormulaOver TermAtom

-- no atom that fails the test is true
abbrev pub IsOff : Test → ℕ → Trace → Type 0
IsOff test n H = (k : ℕ) (atom : TermAtom) → k < n → test atom ≡ false → H k atom ≡ false

-- ---- demands that come to nothing

-- an arrow whose body doesn't hold where no atom that fails the test is true
pub record IsIdle (test : Test) (f : Form) : Type 0 where
  pub body : Form
  pub head : Form
  pub is : f ≡ Arrow body head
  pub off : (n : ℕ) (H T : Trace) (k : ℕ) → k < n → IsOff test n H → sat body n H T k ≡ false

arrow_off : (b h there : Bool) → b ≡ false → there ≡ true → ((not b || h) && there) ≡ true
arrow_off true h there is t = absurd (false≢true (sym is))
arrow_off false h there is t = t

idle_here : (test : Test) (f : Form) → IsIdle test f → (n : ℕ) (H T : Trace) (k : ℕ) → k < n → IsOff test n H → sat f n T T k ≡ true → sat f n H T k ≡ true
idle_here test f idle n H T k l off holds =
    let b = sat idle.body n T T k in
    let h = sat idle.head n T T k in
    let there = (and_parts (not b || h) (not b || h) (subst (λ (g : Form). sat g n T T k ≡ true) idle.is holds)).1 in
    subst (λ (g : Form). sat g n H T k ≡ true) (sym idle.is) (arrow_off (sat idle.body n H T k) (sat idle.head n H T k) (not b || h) (idle.off n H T k l off) there)

idle_there : (test : Test) (f : Form) → IsIdle test f → (n : ℕ) (T : Trace) (k : ℕ) → k < n → IsOff test n T → sat f n T T k ≡ true
idle_there test f idle n T k l off =
    let b = sat idle.body n T T k in
    let h = sat idle.head n T T k in
    let none = idle.off n T T k l off in
    subst (λ (g : Form). sat g n T T k ≡ true) (sym idle.is) (arrow_off b h (not b || h) none (or_left (not b) h (ap not none)))

-- two atoms that are not both true
pub record IsApart (Live : DemandOver TermAtom → Type 0) (known : Test) (demand : DemandOver TermAtom) : Type 0 where
  pub one : TermAtom
  pub other : TermAtom
  pub is : demand.formula ≡ negation (And (Atom one) (Atom other))
  pub lives : known one ≡ true → known other ≡ true → Live demand

not_both : (a b : Bool) → (a ≡ true → b ≡ true → ((not (a && b) || false) && (not (a && b) || false)) ≡ true) → ((not (a && b) || false) && (not (a && b) || false)) ≡ true
not_both true true h = h refl refl
not_both true false h = refl
not_both false b h = refl

apart_here : (Live : DemandOver TermAtom → Type 0) (known : Test) (demand : DemandOver TermAtom) → IsApart Live known demand → (n : ℕ) (H T : Trace) (k : ℕ) → k < n → IsBelow n H T → sat demand.formula n T T k ≡ true → sat demand.formula n H T k ≡ true
apart_here Live known demand pair n H T k l below holds =
    let f : Form = And (Atom pair.one) (Atom pair.other) in
    subst (λ (g : Form). sat g n H T k ≡ true) (sym pair.is)
    (negation_there f n H T below k l ∙ subst (λ (g : Form). sat g n T T k ≡ true) pair.is holds)

-- ---- what is left of a trace when the atoms that fail a test are taken out

abbrev pub kept : Test → Trace → Trace
kept test T k a = T k a && test a

pub kept_below : (test : Test) (n : ℕ) (T : Trace) → IsBelow n (kept test T) T
kept_below test n T k a l h = (and_parts (T k a) (test a) h).0

-- where a formula holds of T it holds of what is left of T
abbrev pub IsKept : Test → Form → Type 0
IsKept test f = (n : ℕ) (T : Trace) (k : ℕ) → k < n → sat f n T T k ≡ true → sat f n (kept test T) T k ≡ true

pub negation_kept : (test : Test) (f : Form) → IsKept test (negation f)
negation_kept test f n T k l holds = negation_there f n (kept test T) T (kept_below test n T) k l ∙ holds

pub next_kept : (test : Test) (atom : TermAtom) → test atom ≡ true → IsKept test (Next (Atom atom))
next_kept test atom passes n T k l holds =
    let parts = and_parts (nat_lt (k + 1) n) (T (k + 1) atom) holds in
    and_from (nat_lt (k + 1) n) (T (k + 1) atom && test atom) parts.0 (and_from (T (k + 1) atom) (test atom) parts.1 passes)

pub atom_kept : (test : Test) (atom : TermAtom) → test atom ≡ true → IsKept test (Atom atom)
atom_kept test atom passes n T k l holds = and_from (T k atom) (test atom) holds passes

pub or_kept : (test : Test) (f g : Form) → IsKept test f → IsKept test g → IsKept test (Or f g)
or_kept test f g keep_f keep_g n T k l holds =
    ⊎_elim (λ (is : sat f n T T k ≡ true). or_left (sat f n (kept test T) T k) (sat g n (kept test T) T k) (keep_f n T k l is))
    (λ (is : sat g n T T k ≡ true). or_right (sat f n (kept test T) T k) (sat g n (kept test T) T k) (keep_g n T k l is))
    (or_cases (sat f n T T k) (sat g n T T k) holds)

arrow_both : (b h there : Bool) → (b ≡ true → h ≡ true) → there ≡ true → ((not b || h) && there) ≡ true
arrow_both true h there f t = and_from h there (f refl) t
arrow_both false h there f t = t

arrow_at : (b h : Bool) → (not b || h) ≡ true → b ≡ true → h ≡ true
arrow_at true h holds is = holds
arrow_at false h holds is = absurd (false≢true is)

pub arrow_kept : (test : Test) (body head : Form) → IsKept test head → IsKept test (Arrow body head)
arrow_kept test body head keep n T k l holds =
    let b = sat body n T T k in
    let h = sat head n T T k in
    let there = (and_parts (not b || h) (not b || h) holds).1 in
    arrow_both (sat body n (kept test T) T k) (sat head n (kept test T) T k) (not b || h)
    (λ (is : sat body n (kept test T) T k ≡ true). keep n T k l (arrow_at b h there (persists body n (kept test T) T (kept_below test n T) k l is))) there

-- ---- the two theories

-- how all demands and the live ones hang together
pub record IsSplit (All Live : DemandOver TermAtom → Type 0) (possible known : Test) : Type 0 where
  pub of_all : (demand : DemandOver TermAtom) → Live demand → All demand
  pub stays : (demand : DemandOver TermAtom) → Live demand → IsKept (λ a. possible a && known a) demand.formula
  pub others : (demand : DemandOver TermAtom) → All demand → Live demand ⊎ (IsIdle possible demand.formula ⊎ IsApart Live known demand)

-- true atoms are possible and known
abbrev pub IsQuiet : Test → Test → ℕ → Trace → Type 0
IsQuiet possible known n T = (k : ℕ) (a : TermAtom) → k < n → T k a ≡ true → (possible a && known a) ≡ true

module _ (All Live : DemandOver TermAtom → Type 0) (possible known : Test) (split : IsSplit All Live possible known) (n : ℕ) where
  abbrev left : Trace → Trace
  left T = kept (λ a. possible a && known a) T

  left_below : (T : Trace) → IsBelow n (left T) T
  left_below T = kept_below (λ a. possible a && known a) n T

  left_off : (T : Trace) → IsOff possible n (left T)
  left_off T k a l fails = and_right (T k a) (possible a && known a) (and_left (possible a) (known a) fails)

  left_quiet : (T : Trace) (k : ℕ) (a : TermAtom) → left T k a ≡ T k a → T k a ≡ true → (possible a && known a) ≡ true
  left_quiet T k a same on = (and_parts (T k a) (possible a && known a) (same ∙ on)).1

  all_quiet : (T : Trace) → IsEquilibrium All n T → IsQuiet possible known n T
  all_quiet T eq k a l on = left_quiet T k a (eq.minimal (left T) (left_below T) model k a l) on
    where
      holds : (demand : DemandOver TermAtom) (j : ℕ) → j < n → All demand → sat demand.formula n T T j ≡ true → sat demand.formula n (left T) T j ≡ true
      holds demand j m is there =
          ⊎_elim (λ (lives : Live demand). split.stays demand lives n T j m there)
          (λ other. ⊎_elim (λ (idle : IsIdle possible demand.formula). idle_here possible demand.formula idle n (left T) T j m (left_off T) there)
          (λ (pair : IsApart Live known demand). apart_here Live known demand pair n (left T) T j m (left_below T) there) other)
          (split.others demand is)

      model : IsModel All n (left T) T
      model demand is = meets-from n (left T) T demand (λ j m due. holds demand j m is (meets-at n T T demand (eq.total demand is) j m due))

  live_quiet : (T : Trace) → IsEquilibrium Live n T → IsQuiet possible known n T
  live_quiet T eq k a l on = left_quiet T k a (eq.minimal (left T) (left_below T) model k a l) on
    where
      model : IsModel Live n (left T) T
      model demand is = meets-from n (left T) T demand (λ j m due. split.stays demand is n T j m (meets-at n T T demand (eq.total demand is) j m due))

  -- an atom that isn't possible is false
  quiet_off : (H T : Trace) → IsBelow n H T → IsQuiet possible known n T → IsOff possible n H
  quiet_off H T below quiet k a l fails =
      ⊎_elim (λ (on : H k a ≡ true). absurd (true≢false (sym (and_parts (possible a) (known a) (quiet k a l (below k a l on))).0 ∙ fails))) (λ (off : H k a ≡ false). off) (cases_Bool (H k a))

  all_here : (H T : Trace) → IsBelow n H T → IsQuiet possible known n T → IsModel All n T T → IsModel Live n H T → IsModel All n H T
  all_here H T below quiet there here demand is =
      ⊎_elim (λ (lives : Live demand). here demand lives)
      (λ other. meets-from n H T demand (λ j m due. holds j m other (meets-at n T T demand (there demand is) j m due)))
      (split.others demand is)
    where
      holds : (j : ℕ) → j < n → IsIdle possible demand.formula ⊎ IsApart Live known demand → sat demand.formula n T T j ≡ true → sat demand.formula n H T j ≡ true
      holds j m other at =
          ⊎_elim (λ (idle : IsIdle possible demand.formula). idle_here possible demand.formula idle n H T j m (quiet_off H T below quiet) at)
          (λ (pair : IsApart Live known demand). apart_here Live known demand pair n H T j m below at) other

  all_there : (T : Trace) → IsQuiet possible known n T → IsModel Live n T T → IsModel All n T T
  all_there T quiet model demand is =
      ⊎_elim (λ (lives : Live demand). model demand lives)
      (λ other. ⊎_elim (λ (idle : IsIdle possible demand.formula). meets-from n T T demand (λ j m due. idle_there possible demand.formula idle n T j m (quiet_off T T (λ i a below on. on) quiet)))
      (λ (pair : IsApart Live known demand). meets-from n T T demand (λ j m due. both pair j m due)) other)
      (split.others demand is)
    where
      both : (pair : IsApart Live known demand) (j : ℕ) → j < n → IsTrue (is_demanded demand.part n j) → sat demand.formula n T T j ≡ true
      both pair j m due =
          subst (λ (g : Form). sat g n T T j ≡ true) (sym pair.is)
          (not_both (T j pair.one) (T j pair.other) (λ (x : T j pair.one ≡ true) (y : T j pair.other ≡ true).
          let lives = pair.lives (and_parts (possible pair.one) (known pair.one) (quiet j pair.one m x)).1 (and_parts (possible pair.other) (known pair.other) (quiet j pair.other m y)).1 in
          subst (λ (g : Form). sat g n T T j ≡ true) pair.is (meets-at n T T demand (model demand lives) j m due)))

  pub live_from_all : (T : Trace) → IsEquilibrium All n T → IsEquilibrium Live n T
  live_from_all T eq = record {
    total = λ demand is. eq.total demand (split.of_all demand is);
    minimal = λ H below model. eq.minimal H below (all_here H T below (all_quiet T eq) eq.total model);
  }

  pub all_from_live : (T : Trace) → IsEquilibrium Live n T → IsEquilibrium All n T
  all_from_live T eq = record {
    total = all_there T (live_quiet T eq) eq.total;
    minimal = λ H below model. eq.minimal H below (λ demand is. model demand (split.of_all demand is));
  }

  pub known_from_all : (T : Trace) → IsEquilibrium All n T → (k : ℕ) (a : TermAtom) → k < n → T k a ≡ true → known a ≡ true
  known_from_all T eq k a l on = (and_parts (possible a) (known a) (all_quiet T eq k a l on)).1
