-- The texts of the file words.
use Rattle.std.specs.Prelude.{◌≡◌, ℕ, ◌<◌, ◌≤◌, List, [], ◌∷◌, Option, take, unwrap_or, IfSome, IsTrue}
use Rattle.std.specs.List.{position}
use Rattle.std.specs.Str.{bytes_eq}
use Rattle.tel_base.specs.Counts.{Rose}
use Rattle.tel_rule.specs.Rising.{has_name}
use Rattle.part_syntax.specs.Programs.{total_bytes}
use Rattle.text_answer.specs.Verdict.{largest_text}
use Rattle.telingo_cli.specs.Reading.{IsTold}

-- the texts are those of the names, in order, each the told one where it is told
abbrev pub AreTold : (List ℕ → Option (List ℕ)) → List (List ℕ) → List (List ℕ) → Type 0
AreTold told [] texts = texts ≡ []
AreTold told (name ∷ names) texts = (text : List ℕ) × (rest : List (List ℕ)) × (texts ≡ text ∷ rest) × IsTold (told name) text × AreTold told names rest

-- the texts of the names, which are the told ones where they are told, have together more bytes than they may have
abbrev pub HaveLargeTexts : (List ℕ → Option (List ℕ)) → List (List ℕ) → Type 0
HaveLargeTexts told names = (texts : List (List ℕ)) × AreTold told names texts × (largest_text < total_bytes texts)

-- the place of the first of these names that is this one
abbrev pub first_place : List (List ℕ) → List ℕ → ℕ
first_place names name = unwrap_or (position (bytes_eq name) names) 0

-- a read of this one of the names failed, which the source's count tells and, where it tells it, the name; the texts
-- before the first such name have together no more bytes than they may have
pub record FailsAt (names : List (List ℕ)) (told : List ℕ → Option (List ℕ)) (failed : Option (List ℕ)) (before now : ℕ) (name : List ℕ) : Type 0 where
  pub is_file : IsTrue (has_name names name)
  pub rose : Rose before now
  pub named : IfSome failed (λ word. word ≡ name)
  pub small_before : (texts : List (List ℕ)) × AreTold told (take (first_place names name) names) texts × (total_bytes texts ≤ largest_text)

-- a read of a file failed, whose name stands first at this place
abbrev pub FailedAt : List (List ℕ) → (List ℕ → Option (List ℕ)) → Option (List ℕ) → ℕ → ℕ → ℕ → Type 0
FailedAt names told failed before now place = (name : List ℕ) × FailsAt names told failed before now name × (place ≡ first_place names name)
