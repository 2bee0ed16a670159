-- What the top call is about: the words, the texts of their files, and what is answered.
use Rattle.std.specs.Prelude.{◌≡◌, ℕ, List, [], ◌∷◌, Option, Some, map, string_bytes, IsTrue}
use Rattle.std.specs.declared.string.String.{String}
use Rattle.std.specs.declared.alloc.Global.{Global}
use Rattle.tel_settings.specs.declared.fields.Settings.{Settings}
use Rattle.tel_settings.specs.declared.fields.Input.{Input}
use Rattle.tel_settings.specs.declared.fields.Input.TheVariants as inputs
use Rattle.tel_settings.specs.Command.{settings_of}
use Rattle.walker_text.specs.Walker.{walker_text}
use Rattle.telingo_cli.specs.Texts.{AreTold, FailsAt, first_place}
use Rattle.text_answer.specs.Delivery.{Delivers}
use Rattle.text_answer.specs.Verdict.{Answers, read_line, is_among}

-- the words, each by its bytes
abbrev pub words_of : List (String Global) → List (List ℕ)
words_of words = map string_bytes words

-- the names of the files; there is none where a text is generated
abbrev pub files_in : Input → List (List ℕ)
files_in (inputs.Files files) = files
files_in (inputs.Number number) = []

abbrev pub files_of : Settings → List (List ℕ)
files_of settings = files_in settings.input

-- the whole texts of the input are these: those of its files, which are told; or the one that is generated
abbrev pub AreWhole : (List ℕ → Option (List ℕ)) → Input → List (List ℕ) → Type 0
AreWhole told (inputs.Files files) texts = map told files ≡ map Some texts
AreWhole told (inputs.Number number) texts = texts ≡ walker_text number ∷ []

-- the words are a line of the command with these settings, and the whole texts of its input are these
pub record AreTextsOf (words : List (List ℕ)) (told : List ℕ → Option (List ℕ)) (settings : Settings) (texts : List (List ℕ)) : Type 0 where
  pub line : settings_of words ≡ Some settings
  pub whole : AreWhole told settings.input texts

-- texts of the input: those of its files, each the told one where it is told; or the one that is generated
abbrev pub AreTexts : (List ℕ → Option (List ℕ)) → Input → List (List ℕ) → Type 0
AreTexts told (inputs.Files files) texts = AreTold told files texts
AreTexts told (inputs.Number number) texts = texts ≡ walker_text number ∷ []

-- the status and what was added answer texts of the input
abbrev pub AnswersSome : Settings → (List ℕ → Option (List ℕ)) → ℕ → Option (List ℕ) → Option (List ℕ) → Type 0
AnswersSome settings told status old new = (texts : List (List ℕ)) × AreTexts told settings.input texts × Answers settings texts status old new

-- the words are a line of the command, and the status and what was added answer the texts of its input
abbrev pub AnswersWords : List (List ℕ) → (List ℕ → Option (List ℕ)) → ℕ → Option (List ℕ) → Option (List ℕ) → Type 0
AnswersWords words told status old new = (settings : Settings) × (settings_of words ≡ Some settings) × AnswersSome settings told status old new

-- a read of one of these files failed, and the line of that was delivered, with the place of the first word of its name
abbrev pub FailedFile : List (List ℕ) → (List ℕ → Option (List ℕ)) → Option (List ℕ) → ℕ → ℕ → ℕ → Option (List ℕ) → Option (List ℕ) → Type 0
FailedFile names told failed before now result old new =
    (name : List ℕ) × FailsAt names told failed before now name × Delivers result 66 (read_line (first_place names name)) old new

-- the words are a line of the command, and this is so of one of its files; with 66 the whole line was added
abbrev pub FailedRead : List (List ℕ) → (List ℕ → Option (List ℕ)) → Option (List ℕ) → ℕ → ℕ → ℕ → Option (List ℕ) → Option (List ℕ) → Type 0
FailedRead words told failed before now result old new = (settings : Settings) × (settings_of words ≡ Some settings) × FailedFile (files_of settings) told failed before now result old new

-- all statuses
abbrev pub statuses : List ℕ
statuses = 10 ∷ 20 ∷ 30 ∷ 64 ∷ 65 ∷ 66 ∷ 69 ∷ 71 ∷ 74 ∷ []

-- a status that comes only where no read failed
abbrev pub KeepsReading : ℕ → Type 0
KeepsReading status = IsTrue (is_among (10 ∷ 20 ∷ 30 ∷ 64 ∷ 65 ∷ 69 ∷ []) status)
