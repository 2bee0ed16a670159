-- Readers: functions of a point that give a thing and the point behind it, or say why they stop. One for each shape of productions.
use Rattle.std.specs.Prelude.{ℕ, zero, suc, Bool, ◌||◌, List, [], ◌∷◌, Option, Some, None, if◌then◌else◌, length, is_some}
use Rattle.grammar_laws.specs.Points.{Point, at, begins}

-- why a reading stops
pub data Why : Type 0 where
  Unexpected : Why
  Deep : Why

-- a thing, and the point behind it; or why it stops, and the words from there on
pub data Read (Word Known A : Type 0) : Type 0 where
  Got : A → Point Word Known → Read Word Known A
  Stuck : Why → List Word → Read Word Known A

abbrev pub Reader : Type 0 → Type 0 → Type 0 → Type 0
Reader Word Known A = Point Word Known → Read Word Known A

-- the words from where a reading ends
abbrev pub rest_of : {Word Known A : Type 0} → Read Word Known A → List Word
rest_of (Got thing to) = to.words
rest_of (Stuck why rest) = rest

-- the same reading with other words behind its end
abbrev pub with_rest : {Word Known A : Type 0} → Read Word Known A → List Word → Read Word Known A
with_rest (Got thing to) rest = Got thing (at to.known rest)
with_rest (Stuck why rest') rest = Stuck why rest

abbrev pub and_then : {Word Known A B : Type 0} → Read Word Known A → (A → Reader Word Known B) → Read Word Known B
and_then (Got thing to) next = next thing to
and_then (Stuck why rest) next = Stuck why rest

abbrev pub give : {Word Known A : Type 0} → A → Reader Word Known A
give thing = λ from. Got thing from

abbrev pub map_read : {Word Known A B : Type 0} → (A → B) → Read Word Known A → Read Word Known B
map_read make (Got thing to) = Got (make thing) to
map_read make (Stuck why rest) = Stuck why rest

abbrev pub made : {Word Known A B : Type 0} → (A → B) → Reader Word Known A → Reader Word Known B
made make read = λ from. map_read make (read from)

-- the words of which a thing can be made
abbrev pub passes : {Word Known A : Type 0} → (Word → Option (Known → A × Known)) → Word → Bool
passes value word = is_some (value word)

-- words that pass one of two tests
abbrev pub or_also : {Word : Type 0} → (Word → Bool) → (Word → Bool) → Word → Bool
or_also first second word = first word || second word

abbrev pub one_made : {Word Known A : Type 0} → Option (Known → A × Known) → Known → Word → List Word → Read Word Known A
one_made None known word words = Stuck Unexpected (word ∷ words)
one_made (Some make) known word words = Got (make known).0 (at (make known).1 words)

abbrev pub one_in : {Word Known A : Type 0} → (Word → Option (Known → A × Known)) → Known → List Word → Read Word Known A
one_in value known [] = Stuck Unexpected []
one_in value known (word ∷ words) = one_made (value word) known word words

abbrev pub one : {Word Known A : Type 0} → (Word → Option (Known → A × Known)) → Reader Word Known A
one value = λ from. one_in value from.known from.words

abbrev pub both : {Word Known A B : Type 0} → Reader Word Known A → Reader Word Known B → Reader Word Known (A × B)
both first second = λ from. and_then (first from) (λ a to. map_read (λ b. (a, b)) (second to))

abbrev pub either : {Word Known A : Type 0} → (Word → Bool) → Reader Word Known A → Reader Word Known A → Reader Word Known A
either test first second = λ from. if begins test from.words then first from else second from

abbrev pub at_most : {Word Known A : Type 0} → ℕ → (Word → Bool) → Reader Word Known A → Reader Word Known (List A)
at_most zero test read = give []
at_most (suc most) test read = λ from.
    if begins test from.words then and_then (read from) (λ thing to. map_read (λ things. thing ∷ things) (at_most most test read to))
    else Got [] from

abbrev pub each : {Word Known A : Type 0} → (Word → Bool) → Reader Word Known A → Reader Word Known (List A)
each test read = λ from. at_most (length from.words) test read from

abbrev pub maybe : {Word Known A : Type 0} → (Word → Bool) → Reader Word Known A → Reader Word Known (Option A)
maybe test read = λ from. if begins test from.words then map_read Some (read from) else Got None from

-- a word that opens a level, where none may be opened
abbrev pub too_deep : {Word Known A : Type 0} → (Word → Bool) → Reader Word Known A
too_deep test = λ from. if begins test from.words then Stuck Deep from.words else Stuck Unexpected from.words

abbrev pub after : {Word Known A B : Type 0} → Reader Word Known A → (A → Reader Word Known B) → Reader Word Known B
after first second = λ from. and_then (first from) second
