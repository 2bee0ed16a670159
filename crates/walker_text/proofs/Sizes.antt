-- How long the text of the walker is.
use Rattle.std.proofs.Common.{◌≡◌, ℕ, ◌+◌, ◌^◌, ◌<◌, ◌≤◌, List, [], ◌∷◌, ◌++◌, codes, length, length-append, refl, ◌∙◌, arith}
use Rattle.std.specs.Prelude.{decimal}
use Rattle.std.proofs.lemmas.Fmt.{length-decimal-le}
use Rattle.walker_text.specs.Walker.{walker_text, walker_lines, ended}

-- how many bytes lines have, each with its line feed
abbrev total : List (List ℕ) → ℕ
total [] = 0
total (line ∷ more) = length line + 1 + total more

ended-length : (lines : List (List ℕ)) → length (ended lines) ≡ total lines
unfolding ended
ended-length [] = refl
ended-length (line ∷ more) = length-append (line ++ codes "\n") (ended more) ∙ (λ i. length-append line (codes "\n") i + ended-length more i)

counted-length : (before after : List ℕ) (number : ℕ) → number < 2 ^ 32 → length (before ++ decimal number ++ after) ≤ length before + 10 + length after
counted-length before after number below =
    let digits = length-decimal-le 10 number (omega arith) (omega (arith, below)) (omega (arith, below)) in
    omega (arith, digits, length-append (before ++ decimal number) after, length-append before (decimal number))

pub walker-small : (cells : ℕ) → cells < 2 ^ 32 → length (walker_text cells) ≤ 349
unfolding walker_text walker_lines
walker-small cells below =
    let l1 : length (codes "#program always.") ≡ 16 = refl in
    let l2 : length (codes "cell(1..") ≡ 8 = refl in
    let l3 : length (codes ").") ≡ 2 = refl in
    let l4 : length (codes "#program initial.") ≡ 17 = refl in
    let l5 : length (codes "at(1).") ≡ 6 = refl in
    let l6 : length (codes "{mark(X)} :- cell(X).") ≡ 21 = refl in
    let l7 : length (codes "{x}. {y}.") ≡ 9 = refl in
    let l8 : length (codes ":- x, y, not &tel { >> at(") ≡ 26 = refl in
    let l9 : length (codes ") }.") ≡ 4 = refl in
    let l10 : length (codes ":- x, not y, not &tel { >> at(") ≡ 30 = refl in
    let l11 : length (codes ":- not x, y, not &tel { >> at(") ≡ 30 = refl in
    let l12 : length (codes ":- not x, not y, not &tel { >> at(") ≡ 34 = refl in
    let l13 : length (codes "#program dynamic.") ≡ 17 = refl in
    let l14 : length (codes "at(X+1) :- 'at(X), cell(X), X < ") ≡ 32 = refl in
    let l15 : length (codes ".") ≡ 1 = refl in
    let l16 : length (codes "#show at/1.") ≡ 11 = refl in
    omega (
      arith,
      ended-length (walker_lines cells),
      l1,
      l2,
      l3,
      l4,
      l5,
      l6,
      l7,
      l8,
      l9,
      l10,
      l11,
      l12,
      l13,
      l14,
      l15,
      l16,
      counted-length (codes "cell(1..") (codes ").") cells below,
      counted-length (codes ":- x, y, not &tel { >> at(") (codes ") }.") cells below,
      counted-length (codes ":- x, not y, not &tel { >> at(") (codes ") }.") cells below,
      counted-length (codes ":- not x, y, not &tel { >> at(") (codes ") }.") cells below,
      counted-length (codes ":- not x, not y, not &tel { >> at(") (codes ") }.") cells below,
      counted-length (codes "at(X+1) :- 'at(X), cell(X), X < ") (codes ".") cells below,
    )
