-- The numbers of what passes a test rise, are in range, and are those that the test says.
use Rattle.std.proofs.Common.{◌≡◌, ℕ, zero, suc, ◌+◌, ◌<◌, Bool, true, false, not, ◌||◌, List, [], ◌∷◌, ◌++◌, length, map, refl, sym, ap, ap₂, ◌∙◌, arith}
use Rattle.std.specs.Prelude.{slice_index_or, if◌then◌else◌, ◌==◌}
use Rattle.std.specs.List.{list_any}
use Rattle.std.proofs.lemmas.Bool.{ne_eqb, eq-eqb}
use Rattle.std.proofs.lemmas.List.{length-map}
use Rattle.tel_term.specs.declared.terms.Term.{Term}
use Rattle.tel_term.specs.Order.{term_at}
use Rattle.tel_rule.specs.declared.statements.Signature.{Signature}
use Rattle.tel_rule.specs.declared.statements.Statement.{Statement}
use Rattle.tel_rule.specs.declared.ground.GroundAtom.{GroundAtom}
use Rattle.tel_rule.specs.declared.ground.Show.TheVariants as shows
use Rattle.tel_rule.specs.Atoms.{name_of}
use Rattle.tel_rule.specs.Ground.{show_in_range}
use Rattle.tel_semantics.specs.Traces.{is_member}
use Rattle.tel_semantics.specs.Tables.{same_predicate}
use Rattle.tel_semantics.specs.Print.{is_shown}
use Rattle.tel_semantics.proofs.Below.{RisesWithin, RisesWithin-lower, state-from_RisesWithin}
use Rattle.theory_lists.specs.Atoms.{atom_over, atom_at}
use Rattle.program_theory.specs.Theory.{atom_predicate, is_shown_by}
use Rattle.fact_instantiate.specs.Shown.{ground_predicate, is_named, numbers_from, has_show, all_named, show_by}

-- ---- a number in front, or none

one_within : (b : Bool) (rest : List ℕ) (first high : ℕ) → first < high → RisesWithin (first + 1) high rest → RisesWithin first high ((if b then first ∷ [] else []) ++ rest)
one_within true rest first high l w = (omega arith, l, w)
one_within false rest first high l w = RisesWithin-lower (first + 1) first high rest (omega arith) w

absent : (low high number : ℕ) (xs : List ℕ) → number < low → RisesWithin low high xs → is_member xs number ≡ false
absent low high number [] l w = refl
absent low high number (x ∷ xs) l w =
    ap₂ (λ (a b : Bool). a || b) (ne_eqb x number (λ e. absurd (omega (arith, w.0)))) (absent (x + 1) high number xs (omega (arith, w.0)) w.2)

here : (b : Bool) (rest : List ℕ) (first high : ℕ) → RisesWithin (first + 1) high rest → is_member ((if b then first ∷ [] else []) ++ rest) first ≡ b
here true rest first high w = ap (λ (a : Bool). a || is_member rest first) (eq-eqb first first refl)
here false rest first high w = absent (first + 1) high first rest (omega arith) w

later : (b : Bool) (rest : List ℕ) (first number : ℕ) → first < number → is_member ((if b then first ∷ [] else []) ++ rest) number ≡ is_member rest number
later true rest first number l = ap (λ (a : Bool). a || is_member rest number) (ne_eqb first number (λ e. absurd (omega arith)))
later false rest first number l = refl

-- ---- the numbers of what passes a test

module _ {X : Type 0} (test : X → Bool) where
  within : (xs : List X) (first high : ℕ) → high ≡ first + length xs → RisesWithin first high (numbers_from test first xs)
  within [] first high e = tt {0}
  within (x ∷ xs) first high e =
      one_within (test x) (numbers_from test (first + 1) xs) first high (omega (arith, e)) (within xs (first + 1) high (omega (arith, e)))

  member : (none : X) (xs : List X) (first number : ℕ) → number < length xs → is_member (numbers_from test first xs) (first + number) ≡ test (slice_index_or xs number none)
  member none [] first number l = absurd (omega (arith, l))
  member none (x ∷ xs) first zero l =
      let itself : first + zero ≡ first = omega arith in
      let high = (first + 1) + length xs in
      ap (is_member (numbers_from test first (x ∷ xs))) itself
      ∙ here (test x) (numbers_from test (first + 1) xs) first high (within xs (first + 1) high refl)
  member none (x ∷ xs) first (suc number) l =
      let moved : first + suc number ≡ (first + 1) + number = omega arith in
      ap (is_member (numbers_from test first (x ∷ xs))) moved
      ∙ later (test x) (numbers_from test (first + 1) xs) first ((first + 1) + number) (omega arith)
      ∙ member none xs (first + 1) number (omega (arith, l))

-- ---- what statements show

-- an atom has the predicate of the atom that it stands for
same_at : (symbols : List Term) (atoms : List GroundAtom) (number : ℕ) (none : GroundAtom) → number < length atoms → ground_predicate symbols (slice_index_or atoms number none) ≡ atom_predicate (atom_at (map (atom_over symbols) atoms) number)
same_at symbols [] number none l = absurd (omega (arith, l))
same_at symbols (atom ∷ more) zero none l = λ i.
    record { negative = atom.negative; name = name_of symbols atom; arity = sym (length-map atom.args (term_at symbols)) i }
same_at symbols (atom ∷ more) (suc number) none l = same_at symbols more number none (omega (arith, l))

module _ (statements : List Statement) (symbols : List Term) (atoms : List GroundAtom) where
  abbrev named : List ℕ
  named = numbers_from (is_named (all_named statements) symbols) 0 atoms

  fits : (b : Bool) → show_in_range (length atoms) (if b then shows.Only named else shows.All) ≡ true
  fits true = state-from_RisesWithin (length atoms) named (within (is_named (all_named statements) symbols) atoms 0 (length atoms) (omega arith))
  fits false = refl

  pub show_fits : show_in_range (length atoms) (show_by statements symbols atoms) ≡ true
  show_fits = fits (has_show statements)

  abbrev over : ℕ → Signature
  over number = atom_predicate (atom_at (map (atom_over symbols) atoms) number)

  named_same : (number : ℕ) → number < length atoms → is_member named number ≡ list_any (same_predicate (over number)) (all_named statements)
  named_same number l =
      let none : GroundAtom = record { negative = false; name = 0; args = [] } in
      let itself : number ≡ 0 + number = omega arith in
      ap (is_member named) itself
      ∙ member (is_named (all_named statements) symbols) none atoms 0 number l
      ∙ ap (λ (predicate : Signature). list_any (same_predicate predicate) (all_named statements)) (same_at symbols atoms number none l)

  same_by : (b : Bool) (number : ℕ) → number < length atoms → is_shown (if b then shows.Only named else shows.All) number ≡ (not b || list_any (same_predicate (over number)) (all_named statements))
  same_by true number l = named_same number l
  same_by false number l = refl

  pub shown_same : (number : ℕ) → number < length atoms → is_shown (show_by statements symbols atoms) number ≡ is_shown_by statements (over number)
  shown_same number l = same_by (has_show statements) number l
