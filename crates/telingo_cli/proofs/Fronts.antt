-- Reading on: a front of a text and the next piece of it are a front of it.
use Rattle.std.proofs.Common.{◌≡◌, ℕ, ◌+◌, ◌≤◌, List, ◌++◌, Option, Some, None, length, take, drop, IfSome, sym, ap, ◌∙◌, arith, length-append}
use Rattle.std.proofs.lemmas.List.{length-take-le, length-take, length-drop}
use Rattle.std.proofs.Math.Seq.{take-add}
use Rattle.telingo_cli.specs.Reading.{IsFrontOf}

-- the piece is what stands in the text at a place
abbrev pub IsNext : Option (List ℕ) → ℕ → List ℕ → ℕ → Type 0
IsNext told place piece count = IfSome told (λ text. take count piece ≡ take count (drop place text))

fits_in : (text piece : List ℕ) (place count : ℕ) → place ≤ length text → count ≤ length piece → take count piece ≡ take count (drop place text) → place + count ≤ length text
fits_in text piece place count within fits given =
    omega (arith, ap length given, length-take-le count piece fits, length-take count (drop place text), length-drop place text)

pub front_more : (told : Option (List ℕ)) (bytes piece : List ℕ) (place count : ℕ) → place ≡ length bytes → IsFrontOf told bytes → count ≤ length piece → IsNext told place piece count → IsFrontOf told (bytes ++ take count piece)
front_more None bytes piece place count at front fits given = tt
front_more (Some text) bytes piece place count at front fits given =
    let bytes_are : bytes ≡ take place text = front.1 ∙ ap (λ n. take n text) (sym at) in
    let total : length (bytes ++ take count piece) ≡ place + count = length-append bytes (take count piece) ∙ (λ i. sym at i + length-take-le count piece fits i) in
    let within : place ≤ length text = omega (arith, front.0) in
    let whole : take (place + count) text ≡ bytes ++ take count piece = take-add place count text ∙ (λ i. sym bytes_are i ++ sym given i) in
    (omega (arith, total, fits_in text piece place count within fits given), sym whole ∙ ap (λ n. take n text) (sym total))
