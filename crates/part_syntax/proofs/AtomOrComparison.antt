-- A literal without `not` is an atom or a comparison, which is told by at most three words.
use Rattle.std.proofs.Common.{◌≡◌, ℕ, zero, suc, ◌<◌, ◌≤◌, Bool, true, false, not, List, [], ◌∷◌, ◌++◌, length, Option, Some, None, refl, sym, ap, subst, ◌∙◌, arith, inl, inr}
use Rattle.std.specs.Prelude.{◌⊎◌, ◌||◌, is_some, if◌then◌else◌}
use Rattle.std.proofs.lemmas.List.{length-append}
use Rattle.std.proofs.lemmas.Bool.{cases_Bool, false≢true}
use Rattle.tel_rule.specs.declared.statements.LitItem.{LitItem}
use Rattle.tel_rule.specs.declared.statements.LitItem.TheVariants as items
use Rattle.tel_term.specs.declared.exprs.Expr.{Expr}
use Rattle.tel_term.specs.declared.exprs.Expr.TheVariants as exprs
use Rattle.formula_syntax.specs.declared.marks.Mark.TheVariants as marks
use Rattle.formula_syntax.specs.Points.{Word, Known, Point, Grammar, Read, Reader}
use Rattle.grammar_laws.specs.Points.{at, begins}
use Rattle.formula_syntax.specs.Senses.{Sense, Name, Variable, Blank, Number, Str, Sign, sense}
use Rattle.grammar_laws.specs.Shapes.{One, Then, Each, Maybe}
use Rattle.grammar_laws.specs.Steps.{Unexpected, Deep, Got, Stuck, rest_of, and_then, give, map_read, made, one, both, each, maybe, passes, or_also}
use Rattle.formula_syntax.specs.Grammar.{by_itself, leaf, leaf_of, name, name_of, product_op, product_op_of, sum_op, sum_op_of, product_of, sum_of, SignRead, IsSign, atom_of, AMark, ALeaf, AName, meant, it, product, args as arguments, IsValue, IsExpr, IsAtom, sign, is_sign, plain}
use Rattle.formula_syntax.specs.Reading.{read_value, read_product, read_negative, read_expr, read_sign, read_args, read_atom, starts_atom}
use Rattle.grammar_laws.proofs.Readers.{head, one-starts_in, Near, Reads, begins-head, begins-front, rest-map, either-got, goes-inl, goes-inr, framed-inl, framed-inr, ends-first, ends-second, either-starts, not-ends}
use Rattle.grammar_laws.proofs.Levels.{Deeper, Raised}
use Rattle.grammar_laws.proofs.Lifting.{Lifts, made-lifts}
use Rattle.grammar_laws.proofs.ReadBy.{Read_by, made-read}
use Rattle.grammar_laws.proofs.Described.{reads-it, lifts-it}
use Rattle.grammar_laws.specs.Productions.{terminal, given, and, behind}
use Rattle.formula_syntax.proofs.Terminals.{words-apart}
use Rattle.formula_syntax.proofs.Families.{starts_value, more_expr, more_atom, value-read, expr-read, expr-lifts, products-read, sums-read, prime-read, primed-read, args-read, atom-read, atom-lifts}
use Rattle.part_syntax.specs.Grammar.{relation, relation_of, compare_of, ARelation, comparison, IsAtomItem, IsComparison, IsPlain}
use Rattle.part_syntax.proofs.WordSets.{compared_words}
use Rattle.part_syntax.specs.Reading.{starts_plain, goes_on, compares_behind, compares, read_plain, read_atom_item, read_comparison}

-- ---- words

name-leaf_of : (s : Sense) → is_some (by_itself (name_of s)) ≡ true → is_some (leaf_of s) ≡ true
name-leaf_of (Name text) is = refl
name-leaf_of _ is = absurd (false≢true is)

-- ---- what was looked at

-- so much was taken that only the first word behind it can matter
abbrev Covers : List Word → List Word → Type 0
Covers [] rest = (begins (passes (sign marks.Minus)) rest ≡ false) × (begins (passes name) rest ≡ false)
Covers (first ∷ []) rest = passes (sign marks.Minus) first ≡ true → begins (passes name) rest ≡ false
Covers (first ∷ second ∷ more) rest = Unit {0}

compares_behind-same : (a b : List Word) → head a ≡ head b → begins (passes name) a ≡ false → compares_behind a ≡ compares_behind b
compares_behind-same [] [] same none = refl
compares_behind-same [] (word ∷ b) same none = absurd cc
compares_behind-same (word ∷ a) [] same none = absurd cc
compares_behind-same (word ∷ a) (word' ∷ b) same none =
    let e : word ≡ word' = cc in
    let none' : passes name word' ≡ false = ap (passes name) (sym e) ∙ none in
    rw (none, none') (ap (λ (w : Word). not (passes (sign marks.Prime) w)) e)

compares-none : (a b : List Word) → head a ≡ head b → begins (passes (sign marks.Minus)) a ≡ false → begins (passes name) a ≡ false → compares a ≡ compares b
unfolding compares
compares-none [] [] same none none' = refl
compares-none [] (word ∷ b) same none none' = absurd cc
compares-none (word ∷ a) [] same none none' = absurd cc
compares-none (word ∷ a) (word' ∷ b) same none none' =
    let e : word ≡ word' = cc in
    let m : passes (sign marks.Minus) word' ≡ false = ap (passes (sign marks.Minus)) (sym e) ∙ none in
    let n : passes name word' ≡ false = ap (passes name) (sym e) ∙ none' in
    rw (none, none', m, n) (ap (λ (w : Word). not (passes (sign marks.Prime) w)) e)

compares-one : (first : Word) (a b : List Word) → head a ≡ head b → (passes (sign marks.Minus) first ≡ true → begins (passes name) a ≡ false) → compares (first ∷ a) ≡ compares (first ∷ b)
unfolding compares
compares-one first a b same covers = elim (cases_Bool (passes (sign marks.Minus) first)) [
  | inl is ↦ rw is (compares_behind-same a b same (covers is))
  | inr isnt ↦ rw isnt (ap (λ (x : Bool). if passes name first then x else not (passes (sign marks.Prime) first)) (begins-head goes_on a b same))
]

compares-two : (first second : Word) (more a b : List Word) → head a ≡ head b → compares (first ∷ second ∷ (more ++ a)) ≡ compares (first ∷ second ∷ (more ++ b))
unfolding compares
compares-two first second more a b same =
    ap (λ (x : Bool). if passes (sign marks.Minus) first then (if passes name second then x else not (passes (sign marks.Prime) second)) else (if passes name first then goes_on second else not (passes (sign marks.Prime) first))) (begins-front goes_on more a b same)

compares-same : (front a b : List Word) → head a ≡ head b → Covers front a → compares (front ++ a) ≡ compares (front ++ b)
compares-same [] a b same covers = compares-none a b same covers.0 covers.1
compares-same (first ∷ []) a b same covers = compares-one first a b same covers
compares-same (first ∷ second ∷ more) a b same covers = compares-two first second more a b same

-- a reading that takes a `-` or a name where it stands, and a name behind a `-`
record TakesNames (words rest : List Word) : Type 0 where
  one_word : begins (or_also (passes (sign marks.Minus)) (passes name)) words ≡ true → length rest < length words
  two_words : (first second : Word) (more : List Word) → words ≡ first ∷ second ∷ more → passes (sign marks.Minus) first ≡ true → passes name second ≡ true → length rest ≤ length more

none-begun : (test : Word → Bool) (words rest : List Word) → words ≡ rest → (begins test words ≡ true → length rest < length words) → begins test rest ≡ false
none-begun test words rest same less = elim (cases_Bool (begins test words)) [
  | inl is ↦ absurd (omega (arith, less is, ap length same))
  | inr isnt ↦ ap (begins test) (sym same) ∙ isnt
]

begins-left : (a b : Word → Bool) (words : List Word) → begins a words ≡ true → begins (or_also a b) words ≡ true
begins-left a b [] is = is
begins-left a b (word ∷ words) is = rw is refl

begins-right : (a b : Word → Bool) (words : List Word) → begins b words ≡ true → begins (or_also a b) words ≡ true
begins-right a b [] is = is
begins-right a b (word ∷ words) is = elim (a word) as (λ (x : Bool). (x || b word) ≡ true) [ true ↦ refl | false ↦ is ]

not-named : (first : Word) (words rest : List Word) → words ≡ first ∷ rest → TakesNames words rest → passes (sign marks.Minus) first ≡ true → begins (passes name) rest ≡ false
not-named first words [] is takes negative = refl
not-named first words (second ∷ more) is takes negative = elim (cases_Bool (passes name second)) [
  | inl named ↦ absurd (omega (arith, takes.two_words first second more is negative named))
  | inr isnt ↦ isnt
]

covers : (front words rest : List Word) → words ≡ front ++ rest → TakesNames words rest → Covers front rest
covers [] words rest is takes = (
  none-begun (passes (sign marks.Minus)) words rest is (λ b. takes.one_word (begins-left (passes (sign marks.Minus)) (passes name) words b)),
  none-begun (passes name) words rest is (λ b. takes.one_word (begins-right (passes (sign marks.Minus)) (passes name) words b)),
)
covers (first ∷ []) words rest is takes = not-named first words rest is takes
covers (first ∷ second ∷ more) words rest is takes = tt

-- ---- both readers take names

rest-both_at : {A B : Type 0} (second : Reader B) → ((from : Point) → Near second from (second from)) → (out : Read A) → length (rest_of {A = A × B} (and_then out (λ a to. map_read (λ (b : B). (a, b)) (second to)))) ≤ length (rest_of out)
rest-both_at {A = A} {B = B} second near (Got a middle) =
    let n = near middle in
    omega (arith, ap length n.whole, length-append n.front (rest_of (second middle)), ap length (rest-map (λ (b : B). let pair : A × B = (a, b) in pair) (second middle)))
rest-both_at second near (Stuck why rest) = omega arith

rest-both : {A B : Type 0} (first : Reader A) (second : Reader B) → ((from : Point) → Near second from (second from)) → (from : Point) → length (rest_of (both first second from)) ≤ length (rest_of (first from))
rest-both first second near from = rest-both_at second near (first from)

record SomeOf {A : Type 0} (o : Option A) : Type 0 where
  value : A
  is : o ≡ Some value

some-of : {A : Type 0} (o : Option A) → is_some o ≡ true → SomeOf o
some-of None is = absurd (false≢true is)
some-of (Some a) is = record { value = a; is = refl }

rest-one : {A : Type 0} (value : Word → Option (Known → A × Known)) (known : Known) (word : Word) (words : List Word) → passes value word ≡ true → rest_of (one value (at known (word ∷ words))) ≡ words
rest-one value known word words is = rw (some-of (value word) is).is refl

-- a reader of two parts on a word that the first one takes
rest-behind : {A B : Type 0} (value : Word → Option (Known → A × Known)) (second : Reader B) → ((from : Point) → Near second from (second from)) → (known : Known) (word : Word) (words : List Word) → passes value word ≡ true → length (rest_of (both (one value) second (at known (word ∷ words)))) ≤ length words
rest-behind value second near known word words is = omega (arith, rest-both (one value) second near (at known (word ∷ words)), ap length (rest-one value known word words is))

-- ---- atoms

rest-maybe_none : {A B : Type 0} (test : Word → Bool) (read : Reader A) (second : Reader B) (known : Known) (words : List Word) → begins test words ≡ false → rest_of (both (maybe test read) second (at known words)) ≡ rest_of (second (at known words))
rest-maybe_none {A = A} {B = B} test read second known words is =
    ap (λ (r : Read (Option A)). rest_of (and_then r (λ (o : Option A) (p : Point). map_read (λ (b : B). let pair : Option A × B = (o, b) in pair) (second p)))) (either-got test (made Some read) (give None) (at known words) false is)
    ∙ rest-map (λ (b : B). let pair : Option A × B = (None, b) in pair) (second (at known words))

rest-maybe_one : {A B : Type 0} (value : Word → Option (Known → A × Known)) (second : Reader B) (known : Known) (word : Word) (words : List Word) → passes value word ≡ true → (s : SomeOf (value word)) → rest_of (both (maybe (passes value) (one value)) second (at known (word ∷ words))) ≡ rest_of (second (at (s.value known).1 words))
rest-maybe_one {A = A} {B = B} value second known word words is s =
    let took : made Some (one value) (at known (word ∷ words)) ≡ Got (Some (s.value known).0) (at (s.value known).1 words) = rw s.is refl in
    ap (λ (r : Read (Option A)). rest_of (and_then r (λ (o : Option A) (p : Point). map_read (λ (b : B). let pair : Option A × B = (o, b) in pair) (second p)))) (either-got (passes value) (made Some (one value)) (give None) (at known (word ∷ words)) true is ∙ took)
    ∙ rest-map (λ (b : B). let pair : Option A × B = (Some (s.value known).0, b) in pair) (second (at (s.value known).1 words))

near-le : {A : Type 0} (read : Reader A) (from : Point) → Near read from (read from) → length (rest_of (read from)) ≤ length from.words
near-le read from n = omega (arith, ap length n.whole, length-append n.front (rest_of (read from)))

abbrev read_primed : Reader (Option (Unit {0}) × (List ℕ × Option (Unit {0})))
read_primed = both (maybe (passes (sign marks.Prime)) (one (sign marks.Prime))) (both (one name) (maybe (passes (sign marks.Prime)) (one (sign marks.Prime))))

abbrev read_named : Reader (List ℕ × Option (Unit {0}))
read_named = both (one name) (maybe (passes (sign marks.Prime)) (one (sign marks.Prime)))

not-primed : (word : Word) (words : List Word) → passes name word ≡ true → begins (passes (sign marks.Prime)) (word ∷ words) ≡ false
not-primed word words is = words-apart AName (AMark marks.Prime) refl word is

primed-takes : (known : Known) (word : Word) (words : List Word) → passes name word ≡ true → length (rest_of (read_primed (at known (word ∷ words)))) ≤ length words
primed-takes known word words is =
    let a = rest-maybe_none (passes (sign marks.Prime)) (one (sign marks.Prime)) read_named known (word ∷ words) (not-primed word words is) in
    let b = rest-behind name (maybe (passes (sign marks.Prime)) (one (sign marks.Prime))) prime-read.reads.near known word words is in
    omega (arith, ap length a, b)

sign-takes_minus : (known : Known) (word : Word) (words : List Word) (s : SomeOf ((sign marks.Minus) word)) → passes (sign marks.Minus) word ≡ true → rest_of (read_sign (at known (word ∷ words))) ≡ rest_of (read_primed (at (s.value known).1 words))
sign-takes_minus known word words s is = rest-maybe_one (sign marks.Minus) read_primed known word words is s

sign-takes_name : (known : Known) (word : Word) (words : List Word) → passes (sign marks.Minus) word ≡ false → rest_of (read_sign (at known (word ∷ words))) ≡ rest_of (read_primed (at known (word ∷ words)))
sign-takes_name known word words isnt = rest-maybe_none (passes (sign marks.Minus)) (one (sign marks.Minus)) read_primed known (word ∷ words) isnt

sign-one : (known : Known) (words : List Word) → begins (or_also (passes (sign marks.Minus)) (passes name)) words ≡ true → length (rest_of (read_sign (at known words))) < length words
sign-one known [] is = absurd (false≢true is)
sign-one known (word ∷ words) is = elim (cases_Bool (passes (sign marks.Minus) word)) [
  | inl negative ↦
      let s = some-of ((sign marks.Minus) word) negative in
      omega (arith, ap length (sign-takes_minus known word words s negative), near-le read_primed (at (s.value known).1 words) (primed-read.reads.near (at (s.value known).1 words)))
  | inr positive ↦
      let named : passes name word ≡ true = second-of (passes (sign marks.Minus) word) (passes name word) positive is in
      omega (arith, ap length (sign-takes_name known word words positive), primed-takes known word words named)
] where
  second-of : (a b : Bool) → a ≡ false → (a || b) ≡ true → b ≡ true
  second-of true b isnt is' = absurd (false≢true (sym isnt))
  second-of false b isnt is' = is'

sign-two : (known : Known) (words : List Word) (first second : Word) (more : List Word) → words ≡ first ∷ second ∷ more → passes (sign marks.Minus) first ≡ true → passes name second ≡ true → length (rest_of (read_sign (at known words))) ≤ length more
sign-two known words first second more same negative named =
    let s = some-of ((sign marks.Minus) first) negative in
    let a : rest_of (read_sign (at known words)) ≡ rest_of (read_primed (at (s.value known).1 (second ∷ more))) = ap (λ (ws : List Word). rest_of (read_sign (at known ws))) same ∙ sign-takes_minus known first (second ∷ more) s negative in
    omega (arith, ap length a, primed-takes (s.value known).1 second more named)

args-near : (n : ℕ) (from : Point) → Near (maybe (passes (sign marks.Open)) (read_args (read_expr (suc n)))) from (maybe (passes (sign marks.Open)) (read_args (read_expr (suc n))) from)
args-near n from = (args-read (suc n)).reads.near from

atom-rest : (n : ℕ) (from : Point) → length (rest_of (read_atom_item n from)) ≤ length (rest_of (read_sign from))
atom-rest n from =
    omega (
      arith,
      ap length (rest-map items.Atom (read_atom (suc n) from)),
      ap length (rest-map atom_of (both read_sign (maybe (passes (sign marks.Open)) (read_args (read_expr (suc n)))) from)),
      rest-both read_sign (maybe (passes (sign marks.Open)) (read_args (read_expr (suc n)))) (args-near n) from,
    )

atom-takes : (n : ℕ) (from : Point) → TakesNames from.words (rest_of (read_atom_item n from))
atom-takes n from = record {
  one_word = λ is. omega (arith, atom-rest n from, sign-one from.known from.words is);
  two_words = λ first second more same negative named. omega (arith, atom-rest n from, sign-two from.known from.words first second more same negative named);
}

-- ---- comparisons

value-name : (n : ℕ) (known : Known) (word : Word) (words : List Word) → passes name word ≡ true → rest_of (read_value n (at known (word ∷ words))) ≡ words
unfolding read_value
value-name zero known word words is = let l : passes leaf word ≡ true = name-leaf_of (sense word) is in rw l (rest-one leaf known word words l)
value-name (suc n) known word words is = let l : passes leaf word ≡ true = name-leaf_of (sense word) is in rw l (rest-one leaf known word words l)

value-negative : (n : ℕ) (known : Known) (word : Word) (words : List Word) → passes (sign marks.Minus) word ≡ true → (s : SomeOf ((sign marks.Minus) word)) → rest_of (read_value (suc n) (at known (word ∷ words))) ≡ rest_of (read_value n (at (s.value known).1 words))
unfolding read_value
value-negative n known word words is s =
    let l : passes leaf word ≡ false = words-apart (AMark marks.Minus) ALeaf refl word is in
    let a : rest_of (read_negative (read_value n) (at known (word ∷ words))) ≡ rest_of (both (one (sign marks.Minus)) (read_value n) (at known (word ∷ words))) =
    rest-map exprs.Minus (made behind (both (one (sign marks.Minus)) (read_value n)) (at known (word ∷ words))) ∙ rest-map behind (both (one (sign marks.Minus)) (read_value n) (at known (word ∷ words))) in
    let b : rest_of (both (one (sign marks.Minus)) (read_value n) (at known (word ∷ words))) ≡ rest_of (read_value n (at (s.value known).1 words)) = rw s.is (rest-map (λ (e : Expr). let pair : Unit {0} × Expr = ((s.value known).0, e) in pair) (read_value n (at (s.value known).1 words))) in
    rw (l, is) (a ∙ b)

value-one : (n : ℕ) (known : Known) (words : List Word) → begins (or_also (passes (sign marks.Minus)) (passes name)) words ≡ true → length (rest_of (read_value (suc n) (at known words))) < length words
value-one n known [] is = absurd (false≢true is)
value-one n known (word ∷ words) is = elim (cases_Bool (passes (sign marks.Minus) word)) [
  | inl negative ↦
      let s = some-of ((sign marks.Minus) word) negative in
      omega (arith, ap length (value-negative n known word words negative s), near-le (read_value n) (at (s.value known).1 words) ((value-read n).reads.near (at (s.value known).1 words)))
  | inr positive ↦
      let named : passes name word ≡ true = second-of (passes (sign marks.Minus) word) (passes name word) positive is in
      omega (arith, ap length (value-name (suc n) known word words named))
] where
  second-of : (a b : Bool) → a ≡ false → (a || b) ≡ true → b ≡ true
  second-of true b isnt is' = absurd (false≢true (sym isnt))
  second-of false b isnt is' = is'

value-two : (n : ℕ) (known : Known) (words : List Word) (first second : Word) (more : List Word) → words ≡ first ∷ second ∷ more → passes (sign marks.Minus) first ≡ true → passes name second ≡ true → length (rest_of (read_value (suc n) (at known words))) ≤ length more
value-two n known words first second more same negative named =
    let s = some-of ((sign marks.Minus) first) negative in
    let a : rest_of (read_value (suc n) (at known words)) ≡ more = ap (λ (ws : List Word). rest_of (read_value (suc n) (at known ws))) same ∙ value-negative n known first (second ∷ more) negative s ∙ value-name n (s.value known).1 second more named in
    omega (arith, ap length a)

products-near : (n : ℕ) (from : Point) → Near (each (passes product_op) (both (one product_op) (read_value n))) from (each (passes product_op) (both (one product_op) (read_value n)) from)
products-near n from = (products-read n).reads.near from

sums-near : (n : ℕ) (from : Point) → Near (each (passes sum_op) (both (one sum_op) (read_product (read_value n)))) from (each (passes sum_op) (both (one sum_op) (read_product (read_value n))) from)
sums-near n from = (sums-read n).reads.near from

expr-rest : (n : ℕ) (from : Point) → length (rest_of (read_expr n from)) ≤ length (rest_of (read_value n from))
expr-rest n from =
    omega (
      arith,
      ap length (rest-map sum_of (both (read_product (read_value n)) (each (passes sum_op) (both (one sum_op) (read_product (read_value n)))) from)),
      rest-both (read_product (read_value n)) (each (passes sum_op) (both (one sum_op) (read_product (read_value n)))) (sums-near n) from,
      ap length (rest-map product_of (both (read_value n) (each (passes product_op) (both (one product_op) (read_value n))) from)),
      rest-both (read_value n) (each (passes product_op) (both (one product_op) (read_value n))) (products-near n) from,
    )

related-read : (n : ℕ) → Read_by (Then (One relation) (IsExpr (suc n))) (both (one relation) (read_expr (suc n))) (passes relation) more_expr
related-read n = reads-it compared_words (λ i. IsExpr (suc n)) (λ i. read_expr (suc n)) (λ i. expr-read (suc n)) (and (terminal ARelation) (given tt)) refl

related-near : (n : ℕ) (from : Point) → Near (both (one relation) (read_expr (suc n))) from (both (one relation) (read_expr (suc n)) from)
related-near n from = (related-read n).reads.near from

comparison-rest : (n : ℕ) (from : Point) → length (rest_of (read_comparison n from)) ≤ length (rest_of (read_value (suc n) from))
comparison-rest n from =
    omega (
      arith,
      ap length (rest-map compare_of (both (read_expr (suc n)) (both (one relation) (read_expr (suc n))) from)),
      rest-both (read_expr (suc n)) (both (one relation) (read_expr (suc n))) (related-near n) from,
      expr-rest (suc n) from,
    )

comparison-takes : (n : ℕ) (from : Point) → TakesNames from.words (rest_of (read_comparison n from))
comparison-takes n from = record {
  one_word = λ is. omega (arith, comparison-rest n from, value-one n from.known from.words is);
  two_words = λ first second more same negative named. omega (arith, comparison-rest n from, value-two n from.known from.words first second more same negative named);
}

-- ---- atoms are told from comparisons

goes_on-opening_of : (s : Sense) → is_some (plain (is_sign marks.Open s)) ≡ true → (is_some (by_itself (product_op_of s)) ≡ false) × (is_some (by_itself (sum_op_of s)) ≡ false) × (is_some (by_itself (relation_of s)) ≡ false)
goes_on-opening_of (Sign marks.Open) is = (refl, refl, refl)
goes_on-opening_of _ is = absurd (false≢true is)

goes_on-prime_of : (s : Sense) → is_some (plain (is_sign marks.Prime s)) ≡ true → (is_some (by_itself (product_op_of s)) ≡ false) × (is_some (by_itself (sum_op_of s)) ≡ false) × (is_some (by_itself (relation_of s)) ≡ false)
goes_on-prime_of (Sign marks.Prime) is = (refl, refl, refl)
goes_on-prime_of _ is = absurd (false≢true is)

not-goes_on : (word : Word) → (passes product_op word ≡ false) × (passes sum_op word ≡ false) × (passes relation word ≡ false) → goes_on word ≡ false
not-goes_on word a = rw (a.0, a.1, a.2) refl

one-begins : {A : Type 0} (value : Word → Option (Known → A × Known)) (test : Word → Bool) (b : Bool) → ((word : Word) → passes value word ≡ true → test word ≡ b) → (from : Point) (thing : A) (to : Point) → One value from thing to → begins test from.words ≡ b
one-begins value test b same from thing to o = ap (begins test) o.first ∙ same o.word (one-starts_in value o.word o.make o.gives)

opening-ends : (word : Word) → passes (sign marks.Open) word ≡ true → goes_on word ≡ false
opening-ends word is = not-goes_on word (goes_on-opening_of (sense word) is)

prime-ends : (word : Word) → passes (sign marks.Prime) word ≡ true → goes_on word ≡ false
prime-ends word is = not-goes_on word (goes_on-prime_of (sense word) is)

-- behind the arguments, if there are any, nothing goes on
args-ends : (n : ℕ) (from : Point) (args : Option (List Expr)) (to : Point) → Maybe (meant (IsExpr n) (arguments it)) from args to → begins goes_on to.words ≡ false → begins goes_on from.words ≡ false
args-ends n from None to same end = ap (λ (p : Point). begins goes_on p.words) same ∙ end
args-ends n from (Some args) to r end = one-begins (sign marks.Open) goes_on false opening-ends from r.of.0 r.reads.middle r.reads.first

prime-then_ends : (from : Point) (after : Option (Unit {0})) (to : Point) → Maybe (One (sign marks.Prime)) from after to → begins goes_on to.words ≡ false → begins goes_on from.words ≡ false
prime-then_ends from None to same end = ap (λ (p : Point). begins goes_on p.words) same ∙ end
prime-then_ends from (Some after) to r end = one-begins (sign marks.Prime) goes_on false prime-ends from after to r

-- a name, and nothing that goes on behind it
record NameAlone (words : List Word) : Type 0 where
  word : Word
  behind : List Word
  is : words ≡ word ∷ behind
  named : passes name word ≡ true
  alone : begins goes_on behind ≡ false

name-alone : (from : Point) (thing : List ℕ × Option (Unit {0})) (to : Point) → Then (One name) (Maybe (One (sign marks.Prime))) from thing to → begins goes_on to.words ≡ false → NameAlone from.words
name-alone from thing to t end = record {
  word = t.first.word;
  behind = t.middle.words;
  is = t.first.first;
  named = one-starts_in name t.first.word t.first.make t.first.gives;
  alone = prime-then_ends t.middle thing.1 to t.second end;
}

-- words that are no comparison, behind a `-` or without one
record NoComparison (words : List Word) : Type 0 where
  behind : compares_behind words ≡ false
  first : compares words ≡ false

alone-no : (words : List Word) → NameAlone words → NoComparison words
unfolding compares
alone-no words a = record {
  behind = rw (a.is, a.named) a.alone;
  first = let n : passes (sign marks.Minus) a.word ≡ false = words-apart AName (AMark marks.Minus) refl a.word a.named in rw (a.is, n, a.named) a.alone;
}

prime-plain_of : (s : Sense) → is_some (plain (is_sign marks.Prime s)) ≡ true → (is_some (plain (is_sign marks.Minus s)) ≡ false) × (is_some (by_itself (name_of s)) ≡ false)
prime-plain_of (Sign marks.Prime) is = (refl, refl)
prime-plain_of _ is = absurd (false≢true is)

prime-no : (word : Word) (words : List Word) → passes (sign marks.Prime) word ≡ true → NoComparison (word ∷ words)
unfolding compares
prime-no word words is =
    let f = prime-plain_of (sense word) is in
    let m : passes (sign marks.Minus) word ≡ false = f.0 in
    let n : passes name word ≡ false = f.1 in
    record { behind = rw (n, is) refl; first = rw (m, n, is) refl }

primed-no : (from : Point) (before : Option (Unit {0})) (middle : Point) → Maybe (One (sign marks.Prime)) from before middle → NoComparison middle.words → NoComparison from.words
primed-no from None middle same no_more = subst (λ (p : Point). NoComparison p.words) (sym same) no_more
primed-no from (Some before) middle r no_more = subst (λ (ws : List Word). NoComparison ws) (sym r.first) (prime-no r.word middle.words (one-starts_in (sign marks.Prime) r.word r.make r.gives))

negative-no : (word : Word) (words : List Word) → passes (sign marks.Minus) word ≡ true → NoComparison words → compares (word ∷ words) ≡ false
unfolding compares
negative-no word words is no_more = rw is no_more.behind

negated-no : (from : Point) (negative : Option (Unit {0})) (middle : Point) → Maybe (One (sign marks.Minus)) from negative middle → NoComparison middle.words → compares from.words ≡ false
negated-no from None middle same no_more = ap (λ (p : Point). compares p.words) same ∙ no_more.first
negated-no from (Some negative) middle r no_more = ap compares r.first ∙ negative-no r.word middle.words (one-starts_in (sign marks.Minus) r.word r.make r.gives) no_more

sign-compares : (from : Point) (sign : SignRead) (to : Point) → IsSign from sign to → begins goes_on to.words ≡ false → compares from.words ≡ false
sign-compares from sign to t end =
    negated-no from sign.0 t.middle t.first
    (primed-no t.middle sign.1.0 t.second.middle t.second.first
    (alone-no t.second.middle.words (name-alone t.second.middle sign.1.1 to t.second.second end)))

atom-compares : (n : ℕ) (from : Point) (item : LitItem) (to : Point) → IsAtomItem n from item to → begins goes_on to.words ≡ false → compares from.words ≡ false
atom-compares n from item to m end =
    let t = m.reads.reads in
    sign-compares from m.reads.of.0 t.middle t.first (args-ends (suc n) t.middle m.reads.of.1 to t.second end)

-- ---- comparisons are told from atoms

goes_on-product : (words : List Word) → begins (passes product_op) words ≡ true → begins goes_on words ≡ true
goes_on-product words is = begins-left (passes product_op) (or_also (passes sum_op) (passes relation)) words is

goes_on-sum : (words : List Word) → begins (passes sum_op) words ≡ true → begins goes_on words ≡ true
goes_on-sum words is = begins-right (passes product_op) (or_also (passes sum_op) (passes relation)) words (begins-left (passes sum_op) (passes relation) words is)

goes_on-relation : (words : List Word) → begins (passes relation) words ≡ true → begins goes_on words ≡ true
goes_on-relation words is = begins-right (passes product_op) (or_also (passes sum_op) (passes relation)) words (begins-right (passes sum_op) (passes relation) words is)

leaf-plain_of : (s : Sense) → is_some (leaf_of s) ≡ true → (is_some (plain (is_sign marks.Minus s)) ≡ false) × (is_some (plain (is_sign marks.Prime s)) ≡ false)
leaf-plain_of (Number text) is = (refl, refl)
leaf-plain_of (Name text) is = (refl, refl)
leaf-plain_of (Str text) is = (refl, refl)
leaf-plain_of (Variable text) is = (refl, refl)
leaf-plain_of Blank is = (refl, refl)
leaf-plain_of _ is = absurd (false≢true is)

open-plain_of : (s : Sense) → is_some (plain (is_sign marks.Open s)) ≡ true → (is_some (plain (is_sign marks.Minus s)) ≡ false) × (is_some (by_itself (name_of s)) ≡ false) × (is_some (plain (is_sign marks.Prime s)) ≡ false)
open-plain_of (Sign marks.Open) is = (refl, refl, refl)
open-plain_of _ is = absurd (false≢true is)

minus-plain_of : (s : Sense) → is_some (plain (is_sign marks.Minus s)) ≡ true → (is_some (by_itself (name_of s)) ≡ false) × (is_some (plain (is_sign marks.Prime s)) ≡ false)
minus-plain_of (Sign marks.Minus) is = (refl, refl)
minus-plain_of _ is = absurd (false≢true is)

-- words that are a comparison, behind a `-` or without one
record Comparing (words : List Word) : Type 0 where
  behind : compares_behind words ≡ true
  first : compares words ≡ true

leaf-comparing : (word : Word) (words : List Word) → passes leaf word ≡ true → begins goes_on words ≡ true → Comparing (word ∷ words)
unfolding compares
leaf-comparing word words is on =
    let f = leaf-plain_of (sense word) is in
    let m : passes (sign marks.Minus) word ≡ false = f.0 in
    let p : passes (sign marks.Prime) word ≡ false = f.1 in
    elim (cases_Bool (passes name word)) [
      | inl named ↦ record { behind = rw named on; first = rw (m, named) on }
      | inr other ↦ record { behind = rw (other, p) refl; first = rw (m, other, p) refl }
    ]

open-comparing : (word : Word) (words : List Word) → passes (sign marks.Open) word ≡ true → Comparing (word ∷ words)
unfolding compares
open-comparing word words is =
    let f = open-plain_of (sense word) is in
    let m : passes (sign marks.Minus) word ≡ false = f.0 in
    let n : passes name word ≡ false = f.1 in
    let p : passes (sign marks.Prime) word ≡ false = f.2 in
    record { behind = rw (n, p) refl; first = rw (m, n, p) refl }

minus-comparing : (word : Word) (words : List Word) → passes (sign marks.Minus) word ≡ true → compares_behind words ≡ true → Comparing (word ∷ words)
unfolding compares
minus-comparing word words is on =
    let f = minus-plain_of (sense word) is in
    let n : passes name word ≡ false = f.0 in
    let p : passes (sign marks.Prime) word ≡ false = f.1 in
    record { behind = rw (n, p) refl; first = rw is on }

one-comparing : {A : Type 0} (value : Word → Option (Known → A × Known)) (from : Point) (thing : A) (to : Point) → One value from thing to → ((word : Word) → passes value word ≡ true → Comparing (word ∷ to.words)) → Comparing from.words
one-comparing value from thing to o made_by = subst (λ (ws : List Word). Comparing ws) (sym o.first) (made_by o.word (one-starts_in value o.word o.make o.gives))

value-comparing : (n : ℕ) (from : Point) (value : Expr) (to : Point) → IsValue n from value to → begins goes_on to.words ≡ true → Comparing from.words
unfolding IsValue
value-comparing zero from value to o on = one-comparing leaf from value to o (λ word is. leaf-comparing word to.words is on)
value-comparing (suc n) from value to (inl o) on = one-comparing leaf from value to o (λ word is. leaf-comparing word to.words is on)
value-comparing (suc n) from value to (inr (inl m)) on =
    let t = m.reads.reads in
    one-comparing (sign marks.Minus) from m.reads.of.0 t.middle t.first (λ word is. minus-comparing word t.middle.words is (value-comparing n t.middle m.reads.of.1 to t.second on).behind)
value-comparing (suc n) from value to (inr (inr m)) on =
    let t = m.reads in
    one-comparing (sign marks.Open) from m.of.0 t.middle t.first (λ word is. open-comparing word t.middle.words is)

-- what stands behind a first operand goes on
chain-on : {A B : Type 0} (op : Word → Option (Known → A × Known)) (F : Grammar B) → ((from : Point) (things : List (A × B)) (to : Point) → Each (Then (One op) F) from things to → (from ≡ to) ⊎ (begins (passes op) from.words ≡ true)) → ((words : List Word) → begins (passes op) words ≡ true → begins goes_on words ≡ true) → (from : Point) (things : List (A × B)) (to : Point) → Each (Then (One op) F) from things to → begins goes_on to.words ≡ true → begins goes_on from.words ≡ true
chain-on op F opens on from things to r end = elim (opens from things to r) [
  | inl same ↦ ap (λ (p : Point). begins goes_on p.words) same ∙ end
  | inr some ↦ on from.words some
]

expr-comparing : (n : ℕ) (from : Point) (expr : Expr) (to : Point) → IsExpr n from expr to → begins goes_on to.words ≡ true → Comparing from.words
expr-comparing n from expr to m on =
    let t = m.reads in
    let p = t.first.reads in
    let sum_on = chain-on sum_op (meant (IsValue n) (product it)) (sums-read n).opens.some goes_on-sum t.middle m.of.1 to t.second on in
    let product_on = chain-on product_op (IsValue n) (products-read n).opens.some goes_on-product p.middle t.first.of.1 t.middle p.second sum_on in
    value-comparing n from t.first.of.0 p.middle p.first product_on

comparison-compares : (n : ℕ) (from : Point) (item : LitItem) (to : Point) → IsComparison n from item to → compares from.words ≡ true
comparison-compares n from item to m =
    let t = m.reads in
    (expr-comparing (suc n) from m.of.0 t.middle t.first (goes_on-relation t.middle.words (one-begins relation (passes relation) true (λ word is. is) t.middle m.of.1.0 t.second.middle t.second.first))).first

-- ---- the reader of both

abbrev pub more_plain : Word → Bool
more_plain = or_also goes_on (or_also more_atom more_expr)

pub atom_item-read : (n : ℕ) → Read_by (IsAtomItem n) (read_atom_item n) starts_atom more_atom
atom_item-read n = made-read items.Atom (IsAtom (suc n)) (read_atom (suc n)) starts_atom more_atom (atom-read (suc n))

comparison-read : (n : ℕ) → Read_by (IsComparison n) (read_comparison n) starts_value more_expr
comparison-read n = reads-it compared_words (λ i. IsExpr (suc n)) (λ i. read_expr (suc n)) (λ i. expr-read (suc n)) comparison refl

plain-got : (n : ℕ) (from : Point) (b : Bool) → compares from.words ≡ b → read_plain n from ≡ (elim b [ true ↦ read_comparison n from | false ↦ read_atom_item n from ])
plain-got n from true is = rw is refl
plain-got n from false is = rw is refl

plain-near : (n : ℕ) (from : Point) (b : Bool) → compares from.words ≡ b → Near (read_plain n) from (elim b [ true ↦ read_comparison n from | false ↦ read_atom_item n from ])
plain-near n from true is =
    let m = (comparison-read n).reads.near from in
    record {
      front = m.front;
      whole = m.whole;
      again = λ rest same.
          plain-got n (at from.known (m.front ++ rest)) true (sym (compares-same m.front (rest_of (read_comparison n from)) rest same (covers m.front from.words (rest_of (read_comparison n from)) m.whole (comparison-takes n from))) ∙ ap compares (sym m.whole) ∙ is)
          ∙ m.again rest same;
    }
plain-near n from false is =
    let m = (atom_item-read n).reads.near from in
    record {
      front = m.front;
      whole = m.whole;
      again = λ rest same.
          plain-got n (at from.known (m.front ++ rest)) false (sym (compares-same m.front (rest_of (read_atom_item n from)) rest same (covers m.front from.words (rest_of (read_atom_item n from)) m.whole (atom-takes n from))) ∙ ap compares (sym m.whole) ∙ is)
          ∙ m.again rest same;
    }

near-same : {A : Type 0} (read : Reader A) (from : Point) (out : Read A) → read from ≡ out → Near read from out → Near read from (read from)
near-same {A = A} read from out is n = subst (λ (r : Read A). Near read from r) (sym is) n

plain-reads : (n : ℕ) → Reads (IsPlain n) (read_plain n) more_plain
plain-reads n =
    let a = (atom_item-read n).reads in
    let c = (comparison-read n).reads in
    record {
      sound = λ from thing to e. elim (cases_Bool (compares from.words)) [
        | inl is ↦ inr (c.sound from thing to (sym (plain-got n from true is) ∙ e))
        | inr is ↦ inl (a.sound from thing to (sym (plain-got n from false is) ∙ e))
      ];
      full = λ from thing to reads end. elim reads [
        | inl r ↦ plain-got n from false (atom-compares n from thing to r (not-ends goes_on to.words (ends-first goes_on (or_also more_atom more_expr) to.words end)))
            ∙ a.full from thing to r (ends-first more_atom more_expr to.words (ends-second goes_on (or_also more_atom more_expr) to.words end))
        | inr r ↦ plain-got n from true (comparison-compares n from thing to r)
            ∙ c.full from thing to r (ends-second more_atom more_expr to.words (ends-second goes_on (or_also more_atom more_expr) to.words end))
      ];
      near = λ from. near-same (read_plain n) from (elim (compares from.words) [ true ↦ read_comparison n from | false ↦ read_atom_item n from ]) (plain-got n from (compares from.words) refl) (plain-near n from (compares from.words) refl);
      framed = λ from thing to reads. elim reads [
        | inl r ↦ framed-inl (IsAtomItem n) (IsComparison n) from thing to (a.framed from thing to r)
        | inr r ↦ framed-inr (IsAtomItem n) (IsComparison n) from thing to (c.framed from thing to r)
      ];
      goes = λ from why rest e. elim (cases_Bool (compares from.words)) [
        | inl is ↦ goes-inr (IsAtomItem n) (IsComparison n) from rest (c.goes from why rest (sym (plain-got n from true is) ∙ e))
        | inr is ↦ goes-inl (IsAtomItem n) (IsComparison n) from rest (a.goes from why rest (sym (plain-got n from false is) ∙ e))
      ];
      lives = λ known. let l = a.lives known in record { words = l.words; thing = l.thing; later = l.later; reads = inl l.reads };
    }

pub plain-read : (n : ℕ) → Read_by (IsPlain n) (read_plain n) starts_plain more_plain
plain-read n = record { reads = plain-reads n; begun = either-starts (IsAtomItem n) (IsComparison n) starts_atom starts_value (atom_item-read n).begun (comparison-read n).begun }

-- ---- one level more

comparison-lifts : (n : ℕ) → Lifts (IsComparison n) (IsComparison (suc n)) (read_comparison n) (read_comparison (suc n))
comparison-lifts n = lifts-it compared_words (λ i. IsExpr (suc n)) (λ i. IsExpr (suc (suc n))) (λ i. read_expr (suc n)) (λ i. read_expr (suc (suc n))) (λ i. expr-lifts (suc n)) (λ i. expr-read (suc (suc n))) comparison refl

pub atom_item-lifts : (n : ℕ) → Lifts (IsAtomItem n) (IsAtomItem (suc n)) (read_atom_item n) (read_atom_item (suc n))
atom_item-lifts n = made-lifts items.Atom (IsAtom (suc n)) (IsAtom (suc (suc n))) (read_atom (suc n)) (read_atom (suc (suc n))) (atom-lifts (suc n))

-- the reader of both with a level more, where one of them goes on
plain-deeper : (n : ℕ) (from : Point) (rest : List Word) (b : Bool) → compares from.words ≡ b → TakesNames from.words rest → Deeper (elim b as (λ x. Reader LitItem) [ true ↦ read_comparison (suc n) | false ↦ read_atom_item (suc n) ]) from rest → Deeper (read_plain (suc n)) from rest
plain-deeper n from rest true is takes d =
    record {
      word = d.word;
      behind = d.behind;
      is = d.is;
      front = d.front;
      whole = d.whole;
      on = plain-got (suc n) (at from.known (d.front ++ d.word ∷ [])) true (sym (compares-same d.front rest (d.word ∷ []) (ap head d.is) (covers d.front from.words rest d.whole takes)) ∙ ap compares (sym d.whole) ∙ is) ∙ d.on;
    }
plain-deeper n from rest false is takes d =
    record {
      word = d.word;
      behind = d.behind;
      is = d.is;
      front = d.front;
      whole = d.whole;
      on = plain-got (suc n) (at from.known (d.front ++ d.word ∷ [])) false (sym (compares-same d.front rest (d.word ∷ []) (ap head d.is) (covers d.front from.words rest d.whole takes)) ∙ ap compares (sym d.whole) ∙ is) ∙ d.on;
    }

plain-raised_as : (n : ℕ) (from : Point) (out : Read LitItem) (b : Bool) → compares from.words ≡ b → TakesNames from.words (rest_of out) → Raised (elim b as (λ x. Reader LitItem) [ true ↦ read_comparison (suc n) | false ↦ read_atom_item (suc n) ]) from out → Raised (read_plain (suc n)) from out
plain-raised_as n from (Got thing to) true is takes r = plain-got (suc n) from true is ∙ r
plain-raised_as n from (Got thing to) false is takes r = plain-got (suc n) from false is ∙ r
plain-raised_as n from (Stuck Unexpected rest) true is takes r = plain-got (suc n) from true is ∙ r
plain-raised_as n from (Stuck Unexpected rest) false is takes r = plain-got (suc n) from false is ∙ r
plain-raised_as n from (Stuck Deep rest) b is takes r = plain-deeper n from rest b is takes r

plain-raised : (n : ℕ) (from : Point) (b : Bool) → compares from.words ≡ b → Raised (read_plain (suc n)) from (read_plain n from)
plain-raised n from true is = subst (λ (r : Read LitItem). Raised (read_plain (suc n)) from r) (sym (plain-got n from true is))
    (plain-raised_as n from (read_comparison n from) true is (comparison-takes n from) ((comparison-lifts n).raises.raise from))
plain-raised n from false is = subst (λ (r : Read LitItem). Raised (read_plain (suc n)) from r) (sym (plain-got n from false is))
    (plain-raised_as n from (read_atom_item n from) false is (atom-takes n from) ((atom_item-lifts n).raises.raise from))

pub plain-lifts : (n : ℕ) → Lifts (IsPlain n) (IsPlain (suc n)) (read_plain n) (read_plain (suc n))
plain-lifts n = record {
  raises = record { raise = λ from. plain-raised n from (compares from.words) refl };
  wider = λ from thing to reads. elim reads [ inl r ↦ inl ((atom_item-lifts n).wider from thing to r) | inr r ↦ inr ((comparison-lifts n).wider from thing to r) ];
}
