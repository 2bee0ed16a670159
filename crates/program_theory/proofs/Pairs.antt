-- The pairs of a template demand of its atoms what each plain atom does with its negative.
use Rattle.std.proofs.Common.{◌≡◌, ℕ, ◌<◌, Bool, true, false, not, ◌&&◌, cond, if◌then◌else◌, List, [], ◌∷◌, length, map, refl, sym, ap, ap₂, ◌∙◌, subst, ⊎_elim, inl, inr}
use Rattle.std.specs.Prelude.{◌==◌, nat_lt, bytes_eq}
use Rattle.std.specs.Bool.{Decides}
use Rattle.std.specs.List.{filter, flat_map, list_all, list_any, range_with_len}
use Rattle.std.specs.declared.cmp.Ordering.TheVariants.{Equal}
use Rattle.std.proofs.lemmas.Bool.{and_parts, cases_Bool, false≢true, eqb-true, eq-eqb}
use Rattle.std.proofs.lemmas.Bool.Decides.{same_from_decides, Decides-eqb, Decides-int_eq}
use Rattle.std.proofs.lemmas.Cmp.{tied_itself}
use Rattle.std.proofs.lemmas.List.{length-map}
use Rattle.std.proofs.lemmas.Slice.Eq.{bytes_eq-Decides}
use Rattle.tel_base.specs.Members.{In}
use Rattle.tel_base.proofs.Members.{In-list_all}
use Rattle.tel_term.specs.declared.terms.Term.{Term}
use Rattle.tel_term.specs.declared.terms.Term.TheVariants as terms
use Rattle.tel_term.specs.declared.terms.Value.{Value}
use Rattle.tel_term.specs.declared.terms.Value.TheVariants as values
use Rattle.tel_term.specs.Symbols.{term_eq, IsTable}
use Rattle.tel_term.specs.Order.{term_at, symbol_of, value_in_range, term_cmp}
use Rattle.tel_term.proofs.Ordered.{terms-total, values-level}
use Rattle.tel_term.proofs.Tables.{term_eq-Decides}
use Rattle.tel_rule.specs.Rising.{rises}
use Rattle.tel_rule.specs.Atoms as numbered
use Rattle.tel_rule.specs.Atoms.{name_bytes, name_of, is_name, atom_in_range, value_eq, values_eq, is_pair, pairs_with, pairs_of}
use Rattle.tel_rule.specs.Ground.{Ground, IsGround}
use Rattle.tel_rule.specs.declared.ground.GroundAtom.{GroundAtom}
use Rattle.tel_rule.specs.declared.parts.Part.TheVariants as parts
use Rattle.tel_semantics.specs.Formula as formulas
use Rattle.tel_semantics.specs.Formula.{negation}
use Rattle.tel_semantics.specs.Theory.{DemandOver, pair_demand}
use Rattle.theory_lists.specs.Atoms.{TermAtom, term_atom_cmp, term_atom_lt, terms_eq, same_atom, negative_of, atom_over}
use Rattle.theory_lists.specs.Renaming.{renamed_demand}
use Rattle.theory_lists.specs.Theories.{atoms_over, numbered_atom}
use Rattle.theory_lists.proofs.AtomOrder.{atoms-total, atoms-one, atoms-rise}
use Rattle.program_theory.specs.Theory.{pair_demands}
use Rattle.program_theory.proofs.Places.{flat_places, one_of, map_filter, index_map_below, In-place, map_map, map_flat}
use Rattle.program_theory.proofs.RisingLists.{rises_tail, not_later}

-- ---- values and their terms

value_eq-Decides : (a b : Value) → Decides (value_eq a b) (a ≡ b)
value_eq-Decides (values.Num m) (values.Num n) = (λ e. ap values.Num ((Decides-int_eq m n).0 e), λ e. (Decides-int_eq m n).1 (cc))
value_eq-Decides (values.Num m) (values.Sym n) = (λ e. absurd (false≢true e), λ e. cc)
value_eq-Decides (values.Sym m) (values.Num n) = (λ e. absurd (false≢true e), λ e. cc)
value_eq-Decides (values.Sym m) (values.Sym n) = (λ e. ap values.Sym (eqb-true m n e), λ e. eq-eqb m n (cc))

module _ (symbols : List Term) (table : IsTable symbols) where
  one_value : (a b : Value) → value_in_range symbols a ≡ true → value_in_range symbols b ≡ true → term_at symbols a ≡ term_at symbols b → a ≡ b
  one_value a b in_a in_b same =
      (values-level symbols a b table in_a in_b).0 (subst (λ (t : Term). term_cmp (term_at symbols a) t ≡ Equal) same (tied_itself terms-total (term_at symbols a)))

  terms_decide : (a b : Value) → value_in_range symbols a ≡ true → value_in_range symbols b ≡ true → Decides (term_eq (term_at symbols a) (term_at symbols b)) (a ≡ b)
  terms_decide a b in_a in_b = (
    λ same. one_value a b in_a in_b ((term_eq-Decides (term_at symbols a) (term_at symbols b)).0 same),
    λ same. (term_eq-Decides (term_at symbols a) (term_at symbols b)).1 (ap (term_at symbols) same),
  )

  same_value : (a b : Value) → value_in_range symbols a ≡ true → value_in_range symbols b ≡ true → value_eq a b ≡ term_eq (term_at symbols a) (term_at symbols b)
  same_value a b in_a in_b = same_from_decides (value_eq a b) (term_eq (term_at symbols a) (term_at symbols b)) (value_eq-Decides a b) (terms_decide a b in_a in_b)

  same_values : (some others : List Value) → list_all (value_in_range symbols) some ≡ true → list_all (value_in_range symbols) others ≡ true → values_eq some others ≡ terms_eq (map (term_at symbols) some) (map (term_at symbols) others)
  same_values [] [] in_a in_b = refl
  same_values [] (b ∷ others) in_a in_b = refl
  same_values (a ∷ some) [] in_a in_b = refl
  same_values (a ∷ some) (b ∷ others) in_a in_b =
      let here_a = and_parts (value_in_range symbols a) (list_all (value_in_range symbols) some) in_a in
      let here_b = and_parts (value_in_range symbols b) (list_all (value_in_range symbols) others) in_b in
      ap₂ (λ (x y : Bool). x && y) (same_value a b here_a.0 here_b.0) (same_values some others here_a.1 here_b.1)

  -- ---- names

  its_name : (term : Term) → is_name term ≡ true → term ≡ terms.Name (name_bytes term)
  its_name (terms.Name bytes) is = refl
  its_name (terms.Num n) is = absurd (false≢true is)
  its_name (terms.Str bytes) is = absurd (false≢true is)

  one_number : (m n : ℕ) → nat_lt m (length symbols) ≡ true → nat_lt n (length symbols) ≡ true → symbol_of symbols m ≡ symbol_of symbols n → m ≡ n
  one_number m n in_m in_n same = let one = one_value (values.Sym m) (values.Sym n) in_m in_n same in cc

  names_decide : (m n : ℕ) → nat_lt m (length symbols) ≡ true → nat_lt n (length symbols) ≡ true → is_name (symbol_of symbols m) ≡ true → is_name (symbol_of symbols n) ≡ true
      → Decides (bytes_eq (name_bytes (symbol_of symbols m)) (name_bytes (symbol_of symbols n))) (m ≡ n)
  names_decide m n in_m in_n is_m is_n = (
    λ same. one_number m n in_m in_n
        (its_name (symbol_of symbols m) is_m
        ∙ ap (λ (bytes : List ℕ). terms.Name bytes) ((bytes_eq-Decides (name_bytes (symbol_of symbols m)) (name_bytes (symbol_of symbols n))).0 same)
        ∙ sym (its_name (symbol_of symbols n) is_n)),
    λ same. (bytes_eq-Decides (name_bytes (symbol_of symbols m)) (name_bytes (symbol_of symbols n))).1 (ap (λ (k : ℕ). name_bytes (symbol_of symbols k)) same),
  )

  -- ---- atoms

  -- by numbers and by terms it is the same atom that is the negative of another
  same_pair : (a b : GroundAtom) → atom_in_range symbols a ≡ true → atom_in_range symbols b ≡ true → is_pair a b ≡ (not a.negative && same_atom (negative_of (atom_over symbols a)) (atom_over symbols b))
  same_pair a b in_a in_b =
      let first_a = and_parts (nat_lt a.name (length symbols)) (is_name (symbol_of symbols a.name) && list_all (value_in_range symbols) a.args) in_a in
      let first_b = and_parts (nat_lt b.name (length symbols)) (is_name (symbol_of symbols b.name) && list_all (value_in_range symbols) b.args) in_b in
      let rest_a = and_parts (is_name (symbol_of symbols a.name)) (list_all (value_in_range symbols) a.args) first_a.1 in
      let rest_b = and_parts (is_name (symbol_of symbols b.name)) (list_all (value_in_range symbols) b.args) first_b.1 in
      let names : (a.name == b.name) ≡ bytes_eq (name_of symbols a) (name_of symbols b) = same_from_decides (a.name == b.name) (bytes_eq (name_of symbols a) (name_of symbols b)) (Decides-eqb a.name b.name)
      (names_decide a.name b.name first_a.0 first_b.0 rest_a.0 rest_b.0) in
      ap₂ (λ (x y : Bool). not a.negative && (b.negative && (x && y))) names (same_values a.args b.args rest_a.1 rest_b.1)

-- ---- the one negative of an atom

none_later : (y : TermAtom) (xs : List TermAtom) → ((x : TermAtom) → In x xs → same_atom y x ≡ false) → filter (same_atom y) xs ≡ []
none_later y [] none = refl
none_later y (x ∷ xs) none =
    ap (λ (b : Bool). cond b (x ∷ filter (same_atom y) xs) (filter (same_atom y) xs)) (none x (inl refl)) ∙ none_later y xs (λ z found. none z (inr found))

-- in a rising list an atom is found at most once
found_once : (y : TermAtom) (xs : List TermAtom) → rises term_atom_lt xs ≡ true → filter (same_atom y) xs ≡ (if list_any (same_atom y) xs then y ∷ [] else [])
found_once y [] up = refl
found_once y (x ∷ xs) up =
    ⊎_elim (λ (here : same_atom y x ≡ true).
    let same : y ≡ x = (atoms-one y x).0 here in
    let again = λ (z : TermAtom) (found : In z xs) (is : same_atom y z ≡ true). not_later term_atom_cmp atoms-total x xs up (subst (λ (w : TermAtom). In w xs) (sym ((atoms-one y z).0 is) ∙ same) found) in
    let rest = none_later y xs (λ z found. ⊎_elim (λ (is : same_atom y z ≡ true). absurd (again z found is)) (λ (other : same_atom y z ≡ false). other) (cases_Bool (same_atom y z))) in
    rw here (λ i. sym same i ∷ rest i))
    (λ (other : same_atom y x ≡ false). rw other (found_once y xs (rises_tail term_atom_cmp atoms-total x xs up)))
    (cases_Bool (same_atom y x))

abbrev paired : TermAtom → TermAtom → DemandOver TermAtom
paired a b = record { part = parts.Always; formula = negation (formulas.And (formulas.Atom a) (formulas.Atom b)) }

none_of : (xs : List TermAtom) (a : TermAtom) → flat_map (one_of (λ (x : TermAtom). false) (paired a)) xs ≡ []
none_of [] a = refl
none_of (x ∷ xs) a = none_of xs a

under_if : (test : Bool) (a b : TermAtom) → map (paired a) (if test then b ∷ [] else []) ≡ (if test then paired a b ∷ [] else [])
under_if true a b = refl
under_if false a b = refl

at_most_one : (negative : Bool) (a : TermAtom) (xs : List TermAtom) → rises term_atom_lt xs ≡ true
    → flat_map (one_of (λ x. not negative && same_atom (negative_of a) x) (paired a)) xs ≡ (if not negative && list_any (same_atom (negative_of a)) xs then paired a (negative_of a) ∷ [] else [])
at_most_one true a xs up = none_of xs a
at_most_one false a xs up =
    sym (map_filter (same_atom (negative_of a)) (paired a) xs)
    ∙ ap (map (paired a)) (found_once (negative_of a) xs up)
    ∙ under_if (list_any (same_atom (negative_of a)) xs) a (negative_of a)

-- ---- the pairs of a template

module _ (template : Ground) (ground : IsGround template) (table : IsTable template.symbols) where
  abbrev past : TermAtom
  past = record { negative = false; name = []; args = [] }

  abbrev numbered_at : ℕ → GroundAtom
  numbered_at place = numbered.atom_at template.atoms place

  count : length (atoms_over template) ≡ length template.atoms
  count = length-map template.atoms (atom_over template.symbols)

  at : (place : ℕ) → place < length template.atoms → numbered_atom template place ≡ atom_over template.symbols (numbered_at place)
  at place l = index_map_below (atom_over template.symbols) template.atoms (record { negative = false; name = 0; args = [] }) past place l

  named : (place : ℕ) → place < length template.atoms → atom_in_range template.symbols (numbered_at place) ≡ true
  named place l = In-list_all (atom_in_range template.symbols) (numbered_at place) template.atoms ground.named (In-place template.atoms (record { negative = false; name = 0; args = [] }) place l)

  is_its_negative : (plain other : ℕ) → plain < length template.atoms → other < length template.atoms
      → is_pair (numbered_at plain) (numbered_at other) ≡ (not (numbered_atom template plain).negative && same_atom (negative_of (numbered_atom template plain)) (numbered_atom template other))
  is_its_negative plain other l m =
      same_pair template.symbols table (numbered_at plain) (numbered_at other) (named plain l) (named other m)
      ∙ ap₂ (λ (a b : TermAtom). not a.negative && same_atom (negative_of a) b) (sym (at plain l)) (sym (at other m))

  pairs_at : (plain : ℕ) → plain < length template.atoms
      → map (λ pair. renamed_demand (numbered_atom template) (pair_demand pair)) (pairs_with template.atoms plain) ≡ pair_demands (atoms_over template) (numbered_atom template plain)
  pairs_at plain l =
      let atoms = atoms_over template in
      let a = numbered_atom template plain in
      let test = λ (other : ℕ). is_pair (numbered_at plain) (numbered_at other) in
      let made = λ (other : ℕ). paired a (numbered_atom template other) in
      let says = λ (x : TermAtom). not a.negative && same_atom (negative_of a) x in
      map_map (λ pair. renamed_demand (numbered_atom template) (pair_demand pair)) (λ (other : ℕ). (plain, other)) (filter test (range_with_len 0 (length template.atoms)))
      ∙ map_filter test made (range_with_len 0 (length template.atoms))
      ∙ ap (λ (n : ℕ). flat_map (one_of test made) (range_with_len 0 n)) (sym count)
      ∙ flat_places (one_of test made) (one_of says (paired a)) past atoms
      (λ other m. ap (λ (b : Bool). cond b (made other ∷ []) []) (is_its_negative plain other l (subst (λ (n : ℕ). other < n) count m)))
      ∙ at_most_one a.negative a atoms (atoms-rise template ground)

  pub pairs_mean : map (renamed_demand (numbered_atom template)) (map pair_demand template.pairs) ≡ flat_map (pair_demands (atoms_over template)) (atoms_over template)
  pairs_mean =
      let say = λ (pair : ℕ × ℕ). renamed_demand (numbered_atom template) (pair_demand pair) in
      map_map (renamed_demand (numbered_atom template)) pair_demand template.pairs
      ∙ ap (map say) ground.paired
      ∙ map_flat say (pairs_with template.atoms) (range_with_len 0 (length template.atoms))
      ∙ ap (λ (n : ℕ). flat_map (λ plain. map say (pairs_with template.atoms plain)) (range_with_len 0 n)) (sym count)
      ∙ flat_places (λ plain. map say (pairs_with template.atoms plain)) (pair_demands (atoms_over template)) past (atoms_over template)
      (λ plain m. pairs_at plain (subst (λ (n : ℕ). plain < n) count m))
