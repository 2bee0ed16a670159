-- Where no literal begins, no body is read; and a body and its stop behind `:-`.
use Rattle.formula_syntax.specs.declared.marks.Mark.TheVariants as marks
use Rattle.std.proofs.Common.{◌≡◌, ℕ, suc, Bool, true, false, List, [], ◌∷◌, Option, Some, None, refl, ap, ◌∙◌, ◌||◌}
use Rattle.tel_rule.specs.declared.statements.Literal.{Literal}
use Rattle.formula_syntax.specs.Points.{Word, Known, Point, Read}
use Rattle.grammar_laws.specs.Points.{at, begins}
use Rattle.grammar_laws.specs.Steps.{Unexpected, Got, Stuck, and_then, map_read, made, one, both, either, maybe, passes, or_also}
use Rattle.formula_syntax.specs.Grammar.{name, sign}
use Rattle.formula_syntax.specs.Reading.{starts_atom}
use Rattle.grammar_laws.proofs.Readers.{either-got}
use Rattle.grammar_laws.proofs.Absent.{one-absent, not-first, not-second}
use Rattle.formula_syntax.proofs.Families.{expr-absent}
use Rattle.part_syntax.specs.Grammar.{behind_nots, body_of}
use Rattle.part_syntax.specs.Reading.{compares, read_tel, read_plain, read_negated, read_literal, read_body, read_tail, starts_literal, starts_plain, starts_value}
use Rattle.grammar_laws.specs.Productions.{first_of}
use Rattle.part_syntax.specs.Given.{body_or_none}

pub one_none : {A : Type 0} (value : Word → Option (Known → A × Known)) (from : Point) → begins (passes value) from.words ≡ false → one value from ≡ Stuck Unexpected from.words
one_none value from is = one-absent value from.known from.words is

or_first : (a b : Bool) → (a || b) ≡ false → a ≡ false
or_first true b is = is
or_first false b is = refl

or_second : (a b : Bool) → (a || b) ≡ false → b ≡ false
or_second true b is = absurd cc
or_second false b is = is

compares_is : (word : Word) (words : List Word) → passes (sign marks.Minus) word ≡ false → passes name word ≡ false → passes (sign marks.Prime) word ≡ false → compares (word ∷ words) ≡ true
unfolding compares
compares_is word words m n p = rw (m, n, p) refl

plain_end : (n : ℕ) (known : Known) → read_plain n (at known []) ≡ Stuck Unexpected []
unfolding compares
plain_end n known = refl

plain_none_in : (n : ℕ) (known : Known) (words : List Word) → begins starts_plain words ≡ false → read_plain n (at known words) ≡ Stuck Unexpected words
plain_none_in n known [] none = plain_end n known
plain_none_in n known (word ∷ words) none =
    let atom = not-first starts_atom starts_value (word ∷ words) none in
    let value = not-second starts_atom starts_value (word ∷ words) none in
    let m = or_first (passes (sign marks.Minus) word) (passes (sign marks.Prime) word || passes name word) atom in
    let more = or_second (passes (sign marks.Minus) word) (passes (sign marks.Prime) word || passes name word) atom in
    let c = compares_is word words m (or_second (passes (sign marks.Prime) word) (passes name word) more) (or_first (passes (sign marks.Prime) word) (passes name word) more) in
    let e = expr-absent (suc n) known (word ∷ words) value in
    rw (c, e) refl

literal_none : (n : ℕ) (from : Point) → begins starts_literal from.words ≡ false → read_literal n from ≡ Stuck Unexpected from.words
literal_none n from none =
    let no_not = not-first (passes (sign marks.Not)) (or_also (passes (sign marks.Ampersand)) starts_plain) from.words none in
    let more = not-second (passes (sign marks.Not)) (or_also (passes (sign marks.Ampersand)) starts_plain) from.words none in
    let no_tel = not-first (passes (sign marks.Ampersand)) starts_plain from.words more in
    let plain = plain_none_in n from.known from.words (not-second (passes (sign marks.Ampersand)) starts_plain from.words more) in
    either-got (passes (sign marks.Not)) (read_negated n) (made (behind_nots 0) (either (passes (sign marks.Ampersand)) (read_tel n) (read_plain n))) from false no_not ∙ ap (map_read (behind_nots 0)) (either-got (passes (sign marks.Ampersand)) (read_tel n) (read_plain n) from false no_tel ∙ plain)

pub body_none : (n : ℕ) (from : Point) → begins starts_literal from.words ≡ false → read_body n from ≡ Stuck Unexpected from.words
body_none n from none = rw (literal_none n from none) refl

ended : (body : List Literal) (out : Read (Unit {0})) → map_read body_or_none (map_read (λ (b : Unit {0}). (Some body, b)) out) ≡ map_read first_of (map_read (λ (b : Unit {0}). (body, b)) out)
ended body (Got end to) = refl
ended body (Stuck why rest) = refl

body_there : (out : Read (List Literal)) →
    map_read body_or_none (and_then (map_read Some out) (λ (a : Option (List Literal)) (to : Point). map_read (λ (b : Unit {0}). (a, b)) (one (sign marks.Stop) to)))
    ≡ map_read first_of (and_then out (λ (a : List Literal) (to : Point). map_read (λ (b : Unit {0}). (a, b)) (one (sign marks.Stop) to)))
body_there (Got body to) = ended body (one (sign marks.Stop) to)
body_there (Stuck why rest) = refl

body_by : (n : ℕ) (from : Point) (b : Bool) → begins starts_literal from.words ≡ b → begins (passes (sign marks.Stop)) from.words ≡ false →
    made body_or_none (both (maybe starts_literal (read_body n)) (one (sign marks.Stop))) from ≡ made first_of (both (read_body n) (one (sign marks.Stop))) from
body_by n from true is other = rw is (body_there (read_body n from))
body_by n from false is other =
    let left = one_none (sign marks.Stop) from other in
    let right = body_none n from is in
    rw (is, left, right) refl

-- where no stop stands, a body is read
pub body_behind : (n : ℕ) (from : Point) → begins (passes (sign marks.Stop)) from.words ≡ false →
    made body_or_none (both (maybe starts_literal (read_body n)) (one (sign marks.Stop))) from ≡ made first_of (both (read_body n) (one (sign marks.Stop))) from
body_behind n from other = body_by n from (begins starts_literal from.words) refl other

behind_if : (out : Read (Option (List Literal) × Unit {0})) → map_read body_of (map_read (λ (b : Option (List Literal) × Unit {0}). (tt, b)) out) ≡ map_read body_or_none out
behind_if (Got read to) = refl
behind_if (Stuck why rest) = refl

-- the tail of a rule, behind its `:-`
pub tail_behind : (n : ℕ) (from middle : Point) → one (sign marks.If) from ≡ Got tt middle → read_tail n from ≡ made body_or_none (both (maybe starts_literal (read_body n)) (one (sign marks.Stop))) middle
tail_behind n from middle is =
    ap (λ (x : Read (Unit {0})). map_read body_of (and_then x (λ (a : Unit {0}) (to : Point). map_read (λ (b : Option (List Literal) × Unit {0}). (a, b)) (both (maybe starts_literal (read_body n)) (one (sign marks.Stop)) to)))) is
    ∙ behind_if (both (maybe starts_literal (read_body n)) (one (sign marks.Stop)) middle)
