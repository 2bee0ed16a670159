-- The order of atoms: it is total, and different places of a rising list have different atoms.
use Rattle.std.proofs.Common.{◌≡◌, ◌↔◌, ℕ, zero, suc, ◌<◌, Bool, true, false, not, ◌&&◌, if◌then◌else◌, List, [], ◌∷◌, length, map, refl, sym, ap, ap₂, ◌∙◌, subst, ⊎_elim, arith}
use Rattle.std.specs.Prelude.{bytes_eq, slice_index_or, ◌==◌, IsTrue}
use Rattle.std.specs.Cmp.{IsTotalOrder, bool_cmp_total}
use Rattle.std.specs.Cmp.Derive.Mapped.{lex_map}
use Rattle.std.specs.Ordering.{nat_cmp, bool_cmp, ordering_then, is_lt}
use Rattle.std.specs.declared.cmp.Ordering.{Ordering}
use Rattle.std.specs.declared.cmp.Ordering.TheVariants.{Less, Equal}
use Rattle.std.proofs.lemmas.Bool.{false≢true, and_parts, and_from, cases_Bool, cases_order, eq-eqb, ne_eqb}
use Rattle.std.proofs.lemmas.Cmp.{on_total, then_total, lists_total, nat_cmp_total, nat_list_cmp_total, tied_itself}
use Rattle.std.proofs.lemmas.List.{length-map}
use Rattle.std.proofs.lemmas.Slice.Eq.{bytes_eq-Decides}
use Rattle.tel_term.specs.declared.terms.Term.{Term}
use Rattle.tel_term.specs.Symbols.{term_eq}
use Rattle.tel_term.specs.Order.{term_at, term_cmp}
use Rattle.tel_term.proofs.Ordered.{terms-total}
use Rattle.tel_term.proofs.Tables.{term_eq-Decides, same_itself}
use Rattle.tel_rule.specs.Rising.{name_cmp, rises}
use Rattle.tel_rule.specs.Atoms.{name_of, atom_cmp, atom_lt}
use Rattle.tel_rule.specs.Ground.{Ground, IsGround}
use Rattle.tel_rule.specs.declared.ground.GroundAtom.{GroundAtom}
use Rattle.tel_rule.proofs.RisingLaws.{less_from_below}
use Rattle.theory_lists.specs.Atoms.{TermAtom, term_atom_cmp, term_atom_lt, terms_eq, same_atom, atom_over, atom_at}
use Rattle.theory_lists.specs.Theories.{atoms_over}

-- ---- atoms that are the same

terms_one : (xs ys : List Term) → terms_eq xs ys ≡ true → xs ≡ ys
terms_one [] [] h = refl
terms_one [] (y ∷ ys) h = absurd (false≢true h)
terms_one (x ∷ xs) [] h = absurd (false≢true h)
terms_one (x ∷ xs) (y ∷ ys) h =
    let both = and_parts (term_eq x y) (terms_eq xs ys) h in
    ap₂ (λ (z : Term) (zs : List Term). z ∷ zs) ((term_eq-Decides x y).0 both.0) (terms_one xs ys both.1)

terms_themselves : (xs : List Term) → terms_eq xs xs ≡ true
terms_themselves [] = refl
terms_themselves (x ∷ xs) = and_from (term_eq x x) (terms_eq xs xs) (same_itself x) (terms_themselves xs)

signs_one : (a b : Bool) → (if a then b else not b) ≡ true → a ≡ b
signs_one true true h = refl
signs_one true false h = absurd (false≢true h)
signs_one false true h = absurd (false≢true h)
signs_one false false h = refl

sign_itself : (a : Bool) → (if a then a else not a) ≡ true
sign_itself true = refl
sign_itself false = refl

of_parts : (a b : TermAtom) → a.negative ≡ b.negative → a.name ≡ b.name → a.args ≡ b.args → a ≡ b
of_parts a b signs names args i = record { negative = signs i; name = names i; args = args i }

one_atom : (a b : TermAtom) → same_atom a b ≡ true → a ≡ b
one_atom a b h =
    let signs = and_parts (if a.negative then b.negative else not b.negative) (bytes_eq a.name b.name && terms_eq a.args b.args) h in
    let rest = and_parts (bytes_eq a.name b.name) (terms_eq a.args b.args) signs.1 in
    of_parts a b (signs_one a.negative b.negative signs.0) ((bytes_eq-Decides a.name b.name).0 rest.0) (terms_one a.args b.args rest.1)

atom_itself : (a : TermAtom) → same_atom a a ≡ true
atom_itself a =
    and_from (if a.negative then a.negative else not a.negative) (bytes_eq a.name a.name && terms_eq a.args a.args) (sign_itself a.negative)
    (and_from (bytes_eq a.name a.name) (terms_eq a.args a.args) ((bytes_eq-Decides a.name a.name).1 refl) (terms_themselves a.args))

pub atoms-one : (a b : TermAtom) → IsTrue (same_atom a b) ↔ (a ≡ b)
atoms-one a b = (one_atom a b, λ same. subst (λ (c : TermAtom). same_atom a c ≡ true) same (atom_itself a))

-- ---- the order

pub atoms-total : IsTotalOrder term_atom_cmp
atoms-total =
    then_total (on_total (λ (a : TermAtom). a.name) nat_list_cmp_total)
    (then_total (on_total (λ (a : TermAtom). a.negative) bool_cmp_total)
    (then_total (on_total (λ (a : TermAtom). length a.args) nat_cmp_total) (on_total (λ (a : TermAtom). a.args) (lists_total terms-total))))

-- the atoms that ground atoms stand for are ordered as these are
cmp-over : (symbols : List Term) (a b : GroundAtom) → atom_cmp symbols a b ≡ term_atom_cmp (atom_over symbols a) (atom_over symbols b)
cmp-over symbols a b =
    let f = λ (m n : ℕ) (o : Ordering). ordering_then (name_cmp (name_of symbols a) (name_of symbols b)) (ordering_then (bool_cmp a.negative b.negative) (ordering_then (nat_cmp m n) o)) in
    let first = length-map a.args (term_at symbols) in
    let second = length-map b.args (term_at symbols) in
    let args = lex_map (term_at symbols) term_cmp a.args b.args in
    λ i. f (sym first i) (sym second i) (sym args i)

rises-map : {X Y : Type 0} (f : X → Y) (below : Y → Y → Bool) (xs : List X) → rises below (map f xs) ≡ rises (λ a b. below (f a) (f b)) xs
rises-map f below [] = refl
rises-map f below (x ∷ []) = refl
rises-map f below (x ∷ y ∷ more) = ap (λ (b : Bool). below (f x) (f y) && b) (rises-map f below (y ∷ more))

pub rises-over : (symbols : List Term) (atoms : List GroundAtom) → rises term_atom_lt (map (atom_over symbols) atoms) ≡ rises (atom_lt symbols) atoms
rises-over symbols atoms =
    rises-map (atom_over symbols) term_atom_lt atoms ∙ (λ i. rises (λ a b. is_lt (sym (cmp-over symbols a b) i)) atoms)

pub atoms-rise : (template : Ground) → IsGround template → IsTrue (rises term_atom_lt (atoms_over template))
atoms-rise template ground = rises-over template.symbols template.atoms ∙ ground.rise

-- ---- different places have different atoms

module _ {X : Type 0} (R : X → X → Ordering) (total : IsTotalOrder R) where
  first_below : (x : X) (xs : List X) (none : X) (i : ℕ) → rises (λ a b. is_lt (R a b)) (x ∷ xs) ≡ true → i < length xs → R x (slice_index_or xs i none) ≡ Less
  first_below x [] none i up l = absurd (omega arith)
  first_below x (y ∷ ys) none zero up l = less_from_below (R x y) (and_parts (is_lt (R x y)) (rises (λ a b. is_lt (R a b)) (y ∷ ys)) up).0
  first_below x (y ∷ ys) none (suc i) up l =
      let both = and_parts (is_lt (R x y)) (rises (λ a b. is_lt (R a b)) (y ∷ ys)) up in
      total.trans x y (slice_index_or ys i none) (less_from_below (R x y) both.0) (first_below y ys none i both.1 (omega arith))

  rises_tail : (x : X) (xs : List X) → rises (λ a b. is_lt (R a b)) (x ∷ xs) ≡ true → rises (λ a b. is_lt (R a b)) xs ≡ true
  rises_tail x [] up = refl
  rises_tail x (y ∷ ys) up = (and_parts (is_lt (R x y)) (rises (λ a b. is_lt (R a b)) (y ∷ ys)) up).1

  earlier_below : (xs : List X) (none : X) (i j : ℕ) → rises (λ a b. is_lt (R a b)) xs ≡ true → i < j → j < length xs → R (slice_index_or xs i none) (slice_index_or xs j none) ≡ Less
  earlier_below [] none i j up l m = absurd (omega arith)
  earlier_below (x ∷ xs) none i zero up l m = absurd (omega arith)
  earlier_below (x ∷ xs) none zero (suc j) up l m = first_below x xs none j up (omega arith)
  earlier_below (x ∷ xs) none (suc i) (suc j) up l m = earlier_below xs none i j (rises_tail x xs up) (omega arith) (omega arith)

  not_earlier : (xs : List X) (none : X) (i j : ℕ) → rises (λ a b. is_lt (R a b)) xs ≡ true → i < j → j < length xs → slice_index_or xs i none ≡ slice_index_or xs j none → ⊥
  not_earlier xs none i j up l m same =
      let x = slice_index_or xs i none in
      let below : R x x ≡ Less = subst (λ (y : X). R x y ≡ Less) (sym same) (earlier_below xs none i j up l m) in
      let clash : Less ≡ Equal = sym below ∙ tied_itself total x in
      cc

  pub one_place : (xs : List X) (none : X) (i j : ℕ) → rises (λ a b. is_lt (R a b)) xs ≡ true → i < length xs → j < length xs → slice_index_or xs i none ≡ slice_index_or xs j none → i ≡ j
  one_place xs none i j up l m same =
      ⊎_elim (λ (e : i ≡ j). e)
      (λ other. ⊎_elim (λ (less : i < j). absurd (not_earlier xs none i j up less m same)) (λ (more : j < i). absurd (not_earlier xs none j i up more l (sym same))) other)
      (cases_order i j)

-- the atom at a place is that of another exactly where the places are one
pub same_place : (atoms : List TermAtom) (i j : ℕ) → rises term_atom_lt atoms ≡ true → i < length atoms → j < length atoms → same_atom (atom_at atoms i) (atom_at atoms j) ≡ (i == j)
same_place atoms i j up l m =
    let none : TermAtom = record { negative = false; name = []; args = [] } in
    let a = atom_at atoms i in
    let b = atom_at atoms j in
    ⊎_elim (λ (same : same_atom a b ≡ true). same ∙ sym (eq-eqb i j (one_place term_atom_cmp atoms-total atoms none i j up l m (one_atom a b same))))
    (λ (other : same_atom a b ≡ false). other
    ∙ sym (ne_eqb i j (λ same. false≢true (sym other ∙ (atoms-one a b).1 (ap (atom_at atoms) same)))))
    (cases_Bool (same_atom a b))
