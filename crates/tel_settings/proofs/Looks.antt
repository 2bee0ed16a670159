-- How the reader of words and the definition see one word.
use Rattle.std.proofs.Common.{◌≡◌, ◌∙◌, ℕ, suc, Bool, true, false, cond, List, [], ◌∷◌, ◌++◌, length, Option, Some, None, refl, sym, ap, subst, codes, arith, one-add, add-one}
use Rattle.std.specs.Prelude.{◌&&◌, ◌||◌, ◌==◌, bytes_eq, nat_eq, find, option_map, chars, slice_get, IsUtf8, encode_utf8_all}
use Rattle.std.specs.List.{before_first, after_first}
use Rattle.std.specs.Option.{option_map_or}
use Rattle.std.proofs.Math.Bool.{and-false}
use Rattle.std.specs.Cmp.Lexicographic.{bytes_decides}
use Rattle.std.proofs.lemmas.Bool.{true≢false}
use Rattle.std.proofs.lemmas.Str.{IsUtf8-drop, IsCharBoundary-after_ascii, chars_from_encodes}
use Rattle.clap.specs.Lexer.{has_byte, long_of, short_of}
use Rattle.clap.specs.Walk.{arg_by_long}
use Rattle.tel_settings.specs.Names.{Name}
use Rattle.tel_settings.specs.Names as names
use Rattle.tel_settings.specs.Words.{name_of, after_name, all_names, is_plain, spelled}
use Rattle.tel_settings.proofs.Rules.{id_of, option_built, rules, lookup, by_long}
use Rattle.tel_settings.proofs.Uses.{Use, Gives, Fails, assigned_use, assigned_use_by}

-- a test of two numbers, from either side
eq-sym : (x y : ℕ) → nat_eq x y ≡ nat_eq y x
eq-sym x y = grind arith

eq-true : (x y : ℕ) → nat_eq x y ≡ true → x ≡ y
eq-true x y e = grind arith

bytes-sym : (xs ys : List ℕ) → bytes_eq xs ys ≡ bytes_eq ys xs
bytes-sym [] [] = refl
bytes-sym [] (y ∷ ys) = refl
bytes-sym (x ∷ xs) [] = refl
bytes-sym (x ∷ xs) (y ∷ ys) = rw (eq-sym x y, bytes-sym xs ys) refl

-- ---- what stands before and after the first `=`

abbrev is_equals : ℕ → Bool
is_equals x = x == 61

abbrev before : List ℕ → List ℕ
before text = before_first is_equals text

abbrev after : List ℕ → List ℕ
after text = after_first is_equals text

before_here : (x : ℕ) (xs : List ℕ) → is_equals x ≡ true → before (x ∷ xs) ≡ []
before_here x xs e = rw e refl

before_past : (x : ℕ) (xs : List ℕ) → is_equals x ≡ false → before (x ∷ xs) ≡ x ∷ before xs
before_past x xs e = rw e (rw one-add refl)

after_here : (x : ℕ) (xs : List ℕ) → is_equals x ≡ true → after (x ∷ xs) ≡ xs
after_here x xs e = rw e refl

after_past : (x : ℕ) (xs : List ℕ) → is_equals x ≡ false → after (x ∷ xs) ≡ after xs
after_past x xs e = rw e (rw one-add (rw add-one (rw add-one refl)))

-- a text with no `=` stands before it
before_all_from : (x : ℕ) (xs : List ℕ) (here : Bool) → is_equals x ≡ here → before xs ≡ xs → here ≡ false → before (x ∷ xs) ≡ x ∷ xs
before_all_from x xs true is rest e = absurd (true≢false e)
before_all_from x xs false is rest e = before_past x xs is ∙ ap (λ ys. x ∷ ys) rest

or_none : (a b : Bool) → (a || b) ≡ false → (a ≡ false) × (b ≡ false)
or_none true b e = absurd (true≢false e)
or_none false b e = (refl, e)

before_all : (text : List ℕ) → has_byte 61 text ≡ false → before text ≡ text
before_all [] e = refl
before_all (x ∷ xs) e =
    let parts = or_none (is_equals x) (has_byte 61 xs) e in
    before_all_from x xs (is_equals x) refl (before_all xs parts.1) parts.0

-- ---- a name and `=` in front of a text

abbrev cut : List ℕ → List ℕ → Option (List ℕ)
cut name text = cond (has_byte 61 text && bytes_eq name (before text)) (Some (after text)) None

cut_none : (x : ℕ) (xs : List ℕ) (here : Bool) → is_equals x ≡ here → after_name (61 ∷ []) (x ∷ xs) ≡ cut [] (x ∷ xs)
cut_none x xs true is =
    let same : nat_eq 61 x ≡ true = eq-sym 61 x ∙ is in
    rw (before_here x xs is, after_here x xs is) (rw (is, same) refl)
cut_none x xs false is =
    let same : nat_eq 61 x ≡ false = eq-sym 61 x ∙ is in
    rw (before_past x xs is, same) (rw (and-false (is_equals x || has_byte 61 xs)) refl)

cut_more : (y : ℕ) (ys : List ℕ) (x : ℕ) (xs : List ℕ) (here same : Bool) → is_equals y ≡ false → is_equals x ≡ here → nat_eq y x ≡ same → after_name (ys ++ 61 ∷ []) xs ≡ cut ys xs → after_name (y ∷ ys ++ 61 ∷ []) (x ∷ xs) ≡ cut (y ∷ ys) (x ∷ xs)
cut_more y ys x xs true true other is e rest = absurd (true≢false (sym is ∙ ap is_equals (sym (eq-true y x e)) ∙ other))
cut_more y ys x xs true false other is e rest = rw (before_here x xs is, e) (rw is refl)
cut_more y ys x xs false true other is e rest = rw (before_past x xs is, after_past x xs is, e) (rw is rest)
cut_more y ys x xs false false other is e rest = rw (before_past x xs is, e) (rw (and-false (is_equals x || has_byte 61 xs)) refl)

cut_name : (name text : List ℕ) → has_byte 61 name ≡ false → after_name (name ++ 61 ∷ []) text ≡ cut name text
cut_name [] [] e = refl
cut_name [] (x ∷ xs) e = cut_none x xs (is_equals x) refl
cut_name (y ∷ ys) [] e = refl
cut_name (y ∷ ys) (x ∷ xs) e =
    let parts = or_none (is_equals y) (has_byte 61 ys) e in
    cut_more y ys x xs (is_equals x) (nat_eq y x) parts.0 refl refl (cut_name ys xs parts.1)

no_equals : (name : Name) → has_byte 61 (id_of name) ≡ false
no_equals names.Imin = refl
no_equals names.Imax = refl
no_equals names.Istop = refl
no_equals names.Models = refl
no_equals names.Conflicts = refl
no_equals names.Generate = refl

-- an option and `=` in front of a long word
abbrev long : List ℕ → List ℕ
long text = 45 ∷ 45 ∷ text

long_cut : (name : Name) (text : List ℕ) → after_name (spelled name ++ codes "=") (long text) ≡ cut (id_of name) text
long_cut names.Imin text = cut_name (codes "imin") text refl
long_cut names.Imax text = cut_name (codes "imax") text refl
long_cut names.Istop text = cut_name (codes "istop") text refl
long_cut names.Models text = cut_name (codes "models") text refl
long_cut names.Conflicts text = cut_name (codes "conflicts") text refl
long_cut names.Generate text = cut_name (codes "generate") text refl

long_spelled : (name : Name) (text : List ℕ) → bytes_eq (long text) (spelled name) ≡ bytes_eq (id_of name) text
long_spelled names.Imin text = bytes-sym text (codes "imin")
long_spelled names.Imax text = bytes-sym text (codes "imax")
long_spelled names.Istop text = bytes-sym text (codes "istop")
long_spelled names.Models text = bytes-sym text (codes "models")
long_spelled names.Conflicts text = bytes-sym text (codes "conflicts")
long_spelled names.Generate text = bytes-sym text (codes "generate")

find_same : {X : Type 0} (p q : X → Bool) (xs : List X) → ((x : X) → p x ≡ q x) → find p xs ≡ find q xs
find_same p q [] h = refl
find_same p q (x ∷ xs) h = rw (h x, find_same p q xs h) refl

-- the option that a long word names
name_of_long : (text : List ℕ) → name_of (long text) ≡ lookup text
name_of_long text = find_same (λ name. bytes_eq (long text) (spelled name)) (λ name. bytes_eq (id_of name) text) all_names (λ name. long_spelled name text)

abbrev gives : Option Name → List ℕ → Use
gives found value = option_map_or (λ name. Gives name value) found Fails

assigned_step : (has same : Bool) (name : Name) (found : Option Name) (value : List ℕ) (others : Use) → others ≡ cond has (gives found value) Fails → option_map_or (Gives name) (cond (has && same) (Some value) None) others ≡ cond has (gives (cond same (Some name) found) value) Fails
assigned_step true true name found value others e = refl
assigned_step true false name found value others e = e
assigned_step false same name found value others e = e

-- what a long word gives: the option of the name before its `=` gets what stands after it
assigned_by_long : (options : List Name) (text : List ℕ) → assigned_use_by options (long text) ≡ cond (has_byte 61 text) (gives (find (λ name. bytes_eq (id_of name) (before text)) options) (after text)) Fails
assigned_by_long [] text = none (has_byte 61 text)
  where
    none : (has : Bool) → Fails ≡ cond has Fails Fails
    none true = refl
    none false = refl
assigned_by_long (name ∷ options) text =
    ap (λ value. option_map_or (Gives name) value (assigned_use_by options (long text))) (long_cut name text)
    ∙ assigned_step (has_byte 61 text) (bytes_eq (id_of name) (before text)) name (find (λ other. bytes_eq (id_of other) (before text)) options) (after text) (assigned_use_by options (long text)) (assigned_by_long options text)

same-has : (xs ys : List ℕ) → bytes_eq xs ys ≡ true → has_byte 61 xs ≡ has_byte 61 ys
same-has xs ys e = ap (has_byte 61) ((bytes_decides xs ys).0 e)

not_same : (name : Name) (text : List ℕ) (same : Bool) → has_byte 61 text ≡ true → bytes_eq (id_of name) text ≡ same → same ≡ false
not_same name text true has is = absurd (true≢false (sym has ∙ sym (same-has (id_of name) text is) ∙ no_equals name))
not_same name text false has is = refl

find_none : {X : Type 0} (p : X → Bool) (xs : List X) → ((x : X) → p x ≡ false) → find p xs ≡ None
find_none p [] h = refl
find_none p (x ∷ xs) h = rw (h x) (find_none p xs h)

-- no option's name has a `=`
no_lookup : (text : List ℕ) → has_byte 61 text ≡ true → lookup text ≡ None
no_lookup text has = find_none (λ name. bytes_eq (id_of name) text) all_names (λ name. not_same name text (bytes_eq (id_of name) text) has refl)

-- ---- one word, as both see it

pub data Looks (word : List ℕ) : Type 0 where
  Dashes : bytes_eq word (codes "--") ≡ true → is_plain word ≡ false → Looks word
  Plain : bytes_eq word (codes "--") ≡ false → is_plain word ≡ true → long_of word ≡ None → short_of word ≡ None → Looks word
  Short : (flags : List ℕ) (letter many : ℕ) → bytes_eq word (codes "--") ≡ false → is_plain word ≡ false → name_of word ≡ None → assigned_use word ≡ Fails
      → long_of word ≡ None → short_of word ≡ Some flags → length flags ≡ suc many → slice_get (chars flags) 0 ≡ Some letter → Looks word
  Waits : (name : Name) (text : List ℕ) → bytes_eq word (codes "--") ≡ false → is_plain word ≡ false → name_of word ≡ Some name
      → long_of word ≡ Some (text, None) → arg_by_long rules text ≡ Some (option_built (id_of name)) → Looks word
  Assigns : (name : Name) (text value : List ℕ) → bytes_eq word (codes "--") ≡ false → is_plain word ≡ false → name_of word ≡ None → assigned_use word ≡ Gives name value
      → long_of word ≡ Some (text, Some value) → arg_by_long rules text ≡ Some (option_built (id_of name)) → Looks word
  Unknown : (text : List ℕ) (value : Option (List ℕ)) → bytes_eq word (codes "--") ≡ false → is_plain word ≡ false → name_of word ≡ None → assigned_use word ≡ Fails
      → long_of word ≡ Some (text, value) → arg_by_long rules text ≡ None → Looks word

known : (text : List ℕ) (found : Option Name) → lookup text ≡ found → arg_by_long rules text ≡ option_map (λ name. option_built (id_of name)) found
known text found e = by_long text ∙ ap (option_map (λ name. option_built (id_of name))) e

abbrev long_text : ℕ → List ℕ → List ℕ
long_text z zs = z ∷ zs

looks_named : (z : ℕ) (zs : List ℕ) (found : Option Name) → has_byte 61 (z ∷ zs) ≡ false → lookup (z ∷ zs) ≡ found → Looks (long (z ∷ zs))
looks_named z zs found has e = go found e
  where
    text : long_of (long (z ∷ zs)) ≡ Some (z ∷ zs, None)
    text = rw has (rw (before_all (z ∷ zs) has) refl)

    fails : assigned_use (long (z ∷ zs)) ≡ Fails
    fails = assigned_by_long all_names (z ∷ zs) ∙ ap (λ b. cond b (gives (find (λ name. bytes_eq (id_of name) (before (z ∷ zs))) all_names) (after (z ∷ zs))) Fails) has

    go : (found : Option Name) → lookup (z ∷ zs) ≡ found → Looks (long (z ∷ zs))
    go None e = Unknown (z ∷ zs) None refl refl (name_of_long (z ∷ zs) ∙ e) fails text (known (z ∷ zs) None e)
    go (Some name) e = Waits name (z ∷ zs) refl refl (name_of_long (z ∷ zs) ∙ e) text (known (z ∷ zs) (Some name) e)

looks_assigned : (z : ℕ) (zs : List ℕ) (found : Option Name) → has_byte 61 (z ∷ zs) ≡ true → lookup (before (z ∷ zs)) ≡ found → Looks (long (z ∷ zs))
looks_assigned z zs found has e = go found e
  where
    text : long_of (long (z ∷ zs)) ≡ Some (before (z ∷ zs), Some (after (z ∷ zs)))
    text = rw has refl

    use_is : (found : Option Name) → lookup (before (z ∷ zs)) ≡ found → assigned_use (long (z ∷ zs)) ≡ gives found (after (z ∷ zs))
    use_is found e = assigned_by_long all_names (z ∷ zs) ∙ ap (λ b. cond b (gives (lookup (before (z ∷ zs))) (after (z ∷ zs))) Fails) has ∙ ap (λ o. gives o (after (z ∷ zs))) e

    unnamed : name_of (long (z ∷ zs)) ≡ None
    unnamed = name_of_long (z ∷ zs) ∙ no_lookup (z ∷ zs) has

    go : (found : Option Name) → lookup (before (z ∷ zs)) ≡ found → Looks (long (z ∷ zs))
    go None e = Unknown (before (z ∷ zs)) (Some (after (z ∷ zs))) refl refl unnamed (use_is None e) text (known (before (z ∷ zs)) None e)
    go (Some name) e = Assigns name (before (z ∷ zs)) (after (z ∷ zs)) refl refl unnamed (use_is (Some name) e) text (known (before (z ∷ zs)) (Some name) e)

looks_long : (z : ℕ) (zs : List ℕ) (has : Bool) → has_byte 61 (z ∷ zs) ≡ has → Looks (long (z ∷ zs))
looks_long z zs false e = looks_named z zs (lookup (z ∷ zs)) e refl
looks_long z zs true e = looks_assigned z zs (lookup (before (z ∷ zs))) e refl

-- a text has a first character
first_char : (y : ℕ) (ys cs : List ℕ) → encode_utf8_all cs ≡ y ∷ ys → cs ≡ chars (y ∷ ys) → (letter : ℕ) × (slice_get (chars (y ∷ ys)) 0 ≡ Some letter)
first_char y ys [] e is = absurd (nothing e)
  where
    nothing : [] ≡ y ∷ ys → ⊥
    nothing h = absurd (omega (arith, ap length h))
first_char y ys (c ∷ cs) e is = (c, ap (λ letters. slice_get letters 0) (sym is))

behind_hyphen : (ys : List ℕ) → IsUtf8 (45 ∷ ys) → IsUtf8 ys
behind_hyphen ys u = IsUtf8-drop (45 ∷ ys) 1 u (IsCharBoundary-after_ascii (45 ∷ ys) 0 u (omega arith) (omega arith))

looks_short : (y : ℕ) (ys : List ℕ) → nat_eq y 45 ≡ false → IsUtf8 (45 ∷ y ∷ ys) → Looks (45 ∷ y ∷ ys)
looks_short y ys other u =
    let other_way : nat_eq 45 y ≡ false = eq-sym 45 y ∙ other in
    let text = behind_hyphen (y ∷ ys) u in
    let letter = first_char y ys text.0 text.1.1 (chars_from_encodes text.0 (y ∷ ys) text text.1.1) in
    Short (y ∷ ys) letter.0 (length ys) (rw other refl) refl (rw other refl) (rw other_way refl) (rw other refl) (rw other refl) refl letter.1

looks_hyphens : (y : ℕ) (ys : List ℕ) (hyphen : Bool) → nat_eq y 45 ≡ hyphen → IsUtf8 (45 ∷ y ∷ ys) → Looks (45 ∷ y ∷ ys)
looks_hyphens y ys false e u = looks_short y ys e u
looks_hyphens y [] true e u = subst (λ x. Looks (45 ∷ x ∷ [])) (sym (eq-true y 45 e)) (Dashes refl refl)
looks_hyphens y (z ∷ zs) true e u = subst (λ x. Looks (45 ∷ x ∷ z ∷ zs)) (sym (eq-true y 45 e)) (looks_long z zs (has_byte 61 (z ∷ zs)) refl)

looks_hyphen : (ys : List ℕ) → IsUtf8 (45 ∷ ys) → Looks (45 ∷ ys)
looks_hyphen [] u = Plain refl refl refl refl
looks_hyphen (y ∷ ys) u = looks_hyphens y ys (nat_eq y 45) refl u

looks_any : (x : ℕ) (xs : List ℕ) (hyphen : Bool) → nat_eq x 45 ≡ hyphen → IsUtf8 (x ∷ xs) → Looks (x ∷ xs)
looks_any x xs true e u =
    let same : x ≡ 45 = eq-true x 45 e in
    subst (λ y. IsUtf8 (y ∷ xs) → Looks (y ∷ xs)) (sym same) (looks_hyphen xs) u
looks_any x xs false e u =
    let other_way : nat_eq 45 x ≡ false = eq-sym 45 x ∙ e in
    Plain (rw e refl) (rw (e, other_way) refl) (rw e refl) (rw e refl)

pub looks : (word : List ℕ) → IsUtf8 word → Looks word
looks [] u = Plain refl refl refl refl
looks (x ∷ xs) u = looks_any x xs (nat_eq x 45) refl u
