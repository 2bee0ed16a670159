-- Rounds settle: after some of them no value comes, so each definition has a value or never has one.
use Rattle.std.proofs.Common.{◌≡◌, ℕ, zero, suc, ◌+◌, ◌<◌, ◌≤◌, List, [], ◌∷◌, map, length, Option, Some, None, refl, sym, ap, subst, ◌∙◌, ◌⊎◌, inl, inr, ⊎_elim, arith}
use Rattle.std.specs.Prelude.{slice_get}
use Rattle.std.proofs.lemmas.Bool.{cases_lt}
use Rattle.tel_term.specs.declared.terms.Term.{Term}
use Rattle.tel_term.specs.declared.terms.Value.{Value}
use Rattle.tel_rule.specs.declared.statements.Statement.{Statement}
use Rattle.tel_rule.specs.declared.statements.Program.{Program}
use Rattle.rule_constants.specs.Constants.{Values, links_of, replacement, next_values, values_after, statement_value, HasValue, HasNoValue}
use Rattle.rule_constants.specs.Replaced.{statement_replaced, AreValues, IsReplaced}
use Rattle.rule_constants.proofs.Rounds.{stays, stays_for}

-- ---- a round gives a value more, or none

one_if_none : Option Value → ℕ
one_if_none None = 1
one_if_none (Some v) = 0

-- how many of the first numbers, so many, have no value
lacking : Values → ℕ → ℕ
lacking K zero = 0
lacking K (suc n) = one_if_none (K n) + lacking K n

Grow : Values → Values → Type 0
Grow K L = (n : ℕ) (v : Value) → K n ≡ Some v → L n ≡ Some v

-- one more, or the same
step : (K L : Values) (n : ℕ) → Grow K L → (one_if_none (L n) < one_if_none (K n)) ⊎ (L n ≡ K n)
unfolding Grow one_if_none
step K L n grow = of (K n) refl (L n) refl
  where
    of : (a : Option Value) → K n ≡ a → (b : Option Value) → L n ≡ b → (one_if_none (L n) < one_if_none (K n)) ⊎ (L n ≡ K n)
    of None x None y = inr (y ∙ sym x)
    of None x (Some w) y = inl (let more = ap one_if_none x in let less = ap one_if_none y in omega (arith, more, less))
    of (Some v) x b y = inr (grow n v x ∙ sym x)

lacking_same : (K L : Values) (n : ℕ) → ((m : ℕ) → m < n → L m ≡ K m) → lacking L n ≡ lacking K n
unfolding lacking
lacking_same K L zero same = refl
lacking_same K L (suc n) same =
    let here = ap one_if_none (same n (omega arith)) in
    let rest = lacking_same K L n (λ m within. same m (omega (arith, within))) in
    omega (arith, here, rest)

more_or_same : (K L : Values) (n : ℕ) → Grow K L → (lacking L n < lacking K n) ⊎ ((m : ℕ) → m < n → L m ≡ K m)
unfolding lacking
more_or_same K L zero grow = inr (λ m within. absurd (omega (arith, within)))
more_or_same K L (suc n) grow =
    ⊎_elim
    (λ (less : one_if_none (L n) < one_if_none (K n)). ⊎_elim
    (λ (rest : lacking L n < lacking K n). inl (omega (arith, less, rest)))
    (λ same. inl (let rest = lacking_same K L n same in omega (arith, less, rest)))
    (more_or_same K L n grow))
    (λ (here : L n ≡ K n). ⊎_elim
    (λ (rest : lacking L n < lacking K n). inl (let even = ap one_if_none here in omega (arith, even, rest)))
    (λ same. inr (λ m within. ⊎_elim (λ (low : m < n). same m low) (λ (high : n ≤ m). let e : n ≡ m = omega (arith, within, high) in subst (λ (k : ℕ). L k ≡ K k) e here) (cases_lt m n)))
    (more_or_same K L n grow))
    (step K L n grow)

module _ (statements : List Statement) (links : List (Option ℕ)) where
  abbrev after : ℕ → Values
  after rounds = values_after statements links rounds

  past-end : {X : Type 0} (xs : List X) (n : ℕ) → length xs ≤ n → slice_get xs n ≡ None
  past-end [] n end = refl
  past-end (x ∷ xs) zero end = absurd (omega (arith, end))
  past-end (x ∷ xs) (suc n) end = past-end xs n (omega (arith, end))

  -- a number of no statement has no value
  outside : (k n : ℕ) → length statements ≤ n → after k n ≡ None
  outside zero n end = refl
  outside (suc k) n end = ap (statement_value links (after k)) (past-end statements n end)

  Settled : ℕ → Type 0
  Settled k = (n : ℕ) → after (suc k) n ≡ after k n

  grows : (k : ℕ) → Grow (after k) (after (suc k))
  unfolding Grow
  grows k n v h = stays statements links k n v h

  settled_at : (k : ℕ) → ((m : ℕ) → m < length statements → after (suc k) m ≡ after k m) → Settled k
  unfolding Settled
  settled_at k same n = ⊎_elim (λ (low : n < length statements). same n low) (λ (high : length statements ≤ n). outside (suc k) n high ∙ sym (outside k n high)) (cases_lt n (length statements))

  settles : (fuel k : ℕ) → lacking (after k) (length statements) ≤ fuel → (j : ℕ) × Settled j
  settles zero k few =
      ⊎_elim
      (λ (less : lacking (after (suc k)) (length statements) < lacking (after k) (length statements)). absurd (omega (arith, few, less)))
      (λ same. (k, settled_at k same))
      (more_or_same (after k) (after (suc k)) (length statements) (grows k))
  settles (suc fuel) k few =
      ⊎_elim
      (λ (less : lacking (after (suc k)) (length statements) < lacking (after k) (length statements)). settles fuel (suc k) (omega (arith, few, less)))
      (λ same. (k, settled_at k same))
      (more_or_same (after k) (after (suc k)) (length statements) (grows k))

  -- nothing comes any more
  stands : (j : ℕ) → Settled j → (m n : ℕ) → after (m + j) n ≡ after j n
  unfolding Settled
  stands j settled zero n = let e : zero + j ≡ j = omega arith in ap (λ (r : ℕ). after r n) e
  stands j settled (suc m) n =
      let e : suc m + j ≡ suc (m + j) = omega arith in
      let before : after (m + j) ≡ after j = λ i n. stands j settled m n i in
      ap (λ (r : ℕ). after r n) e ∙ ap (λ (K : Values). next_values statements links K n) before ∙ settled n

  last_value : (j : ℕ) → Settled j → (r n : ℕ) (v : Value) → after r n ≡ Some v → after j n ≡ Some v
  last_value j settled r n v h = sym (stands j settled r n) ∙ stays_for statements links j r (r + j) n v (omega arith) h

  last_none : (j : ℕ) → Settled j → (n : ℕ) → after j n ≡ None → (r : ℕ) → after r n ≡ None
  last_none j settled n none r = of (after r n) refl
    where
      of : (o : Option Value) → after r n ≡ o → after r n ≡ None
      of None e = e
      of (Some v) e = let e' = last_value j settled r n v e in absurd cc

-- ---- programs

settled_rounds : (statements : List Statement) (symbols : List Term) → (j : ℕ) × Settled statements (links_of statements symbols) j
settled_rounds statements symbols = settles statements (links_of statements symbols) (lacking (values_after statements (links_of statements symbols) 0) (length statements)) 0 (omega arith)

-- the definitions of a program have their values
pub some_values : (statements : List Statement) (symbols : List Term) → (known : Values) × AreValues statements symbols known
some_values statements symbols =
    let links = links_of statements symbols in
    let last = settled_rounds statements symbols in
    (values_after statements links last.0, λ number value. ((λ h. (last.0, h)), (λ has. last_value statements links last.0 last.1 has.0 number value has.1)))

-- each has a value, or never has one
pub value_or_none : (statements : List Statement) (symbols : List Term) (number : ℕ) → ((value : Value) × HasValue statements symbols number value) ⊎ HasNoValue statements symbols number
value_or_none statements symbols number = of (settled_rounds statements symbols)
  where
    of : ((j : ℕ) × Settled statements (links_of statements symbols) j) → ((value : Value) × HasValue statements symbols number value) ⊎ HasNoValue statements symbols number
    of last = by (values_after statements (links_of statements symbols) last.0 number) refl
      where
        by : (o : Option Value) → values_after statements (links_of statements symbols) last.0 number ≡ o → ((value : Value) × HasValue statements symbols number value) ⊎ HasNoValue statements symbols number
        by None e = inr (last_none statements (links_of statements symbols) last.0 last.1 number e)
        by (Some v) e = inl (v, (last.0, e))

-- a program has one with its constants replaced
pub some_replaced : (program : Program) → (replaced : Program) × IsReplaced program replaced
some_replaced program =
    let found = some_values program.statements program.symbols in (
      record { statements = map (statement_replaced (replacement (links_of program.statements program.symbols) found.0)) program.statements; symbols = program.symbols },
      record { known = found.0; values = found.1; statements = refl; symbols = refl },
    )
