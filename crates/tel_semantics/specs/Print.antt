-- What is printed for a length, byte for byte: a header, the lines of each trace, and a closing line.
use Rattle.std.specs.Prelude.{ℕ, ◌+◌, ◌-◌, ◌^◌, Bool, true, List, [], ◌∷◌, ◌++◌, map, length, min, decimal, codes, slice_index_or, if◌then◌else◌, ◌==◌}
use Rattle.std.specs.List.{flat_map}
use Rattle.std.specs.Fmt.{signed_decimal}
use Rattle.tel_term.specs.declared.terms.Term.{Term}
use Rattle.tel_term.specs.declared.terms.Term.TheVariants as terms
use Rattle.tel_term.specs.declared.terms.Value.{Value}
use Rattle.tel_rule.specs.declared.ground.GroundAtom.{GroundAtom}
use Rattle.tel_rule.specs.declared.ground.Show.{Show}
use Rattle.tel_rule.specs.declared.ground.Show.TheVariants as shows
use Rattle.tel_rule.specs.Atoms.{name_of, term_of}
use Rattle.tel_rule.specs.Ground.{Ground}
use Rattle.tel_semantics.specs.declared.ends.How.{How}
use Rattle.tel_semantics.specs.declared.ends.How.TheVariants.{Complete, Limit, Budget}
use Rattle.tel_semantics.specs.Traces.{is_member}

-- "length n"
abbrev pub header_line : ℕ → List ℕ
header_line n = codes "length " ++ decimal n ++ codes "\n"

-- a byte of a string: a line feed, a quote and a backslash stand behind a backslash
abbrev pub escaped : ℕ → List ℕ
escaped byte = if byte == 10 then codes "\\n" else (if byte == 34 then codes "\\\"" else (if byte == 92 then codes "\\\\" else byte ∷ []))

-- a number in decimal, a name by its bytes, a string between quotes
abbrev pub term_text : Term → List ℕ
term_text (terms.Num n) = signed_decimal n
term_text (terms.Name bytes) = bytes
term_text (terms.Str bytes) = codes "\"" ++ flat_map escaped bytes ++ codes "\""

abbrev pub value_text : List Term → Value → List ℕ
value_text symbols value = term_text (term_of symbols value)

-- an argument behind another
abbrev pub next_text : List Term → Value → List ℕ
next_text symbols value = codes "," ++ value_text symbols value

-- arguments in brackets, with commas between; of none there is nothing
abbrev pub args_text : List Term → List Value → List ℕ
args_text symbols [] = []
args_text symbols (first ∷ more) = codes "(" ++ value_text symbols first ++ flat_map (next_text symbols) more ++ codes ")"

abbrev pub sign_text : Bool → List ℕ
sign_text negative = if negative then codes "-" else []

-- an atom: a hyphen where it is negative, its name, and its arguments
unfoldable pub ground_text : List Term → GroundAtom → List ℕ
ground_text symbols atom = sign_text atom.negative ++ name_of symbols atom ++ args_text symbols atom.args

-- whether an atom is shown
abbrev pub is_shown : Show → ℕ → Bool
is_shown shows.All atom = true
is_shown (shows.Only shown) atom = is_member shown atom

-- the atom with a number; past the end there is none, and no text
unfoldable pub numbered_text : Ground → ℕ → List ℕ
numbered_text program atom = slice_index_or (map (ground_text program.symbols) program.atoms) atom []

-- a space and an atom that is shown; of one that isn't there is nothing
unfoldable pub atom_text : Ground → ℕ → List ℕ
atom_text program atom = if is_shown program.show atom then 32 ∷ numbered_text program atom else []

-- "state k:" and the shown atoms that are true there
abbrev pub state_line : Ground → ℕ → List ℕ → List ℕ
state_line program k state = codes "state " ++ decimal k ++ codes ":" ++ flat_map (atom_text program) state ++ codes "\n"

-- the lines of the states from k on
abbrev pub state_lines : Ground → ℕ → List (List ℕ) → List ℕ
state_lines program k [] = []
state_lines program k (state ∷ states) = state_line program k state ++ state_lines program (k + 1) states

-- "trace" and its states
abbrev pub trace_lines : Ground → List (List ℕ) → List ℕ
trace_lines program states = codes "trace\n" ++ state_lines program 0 states

abbrev pub how_text : How → List ℕ
how_text Complete = codes "complete"
how_text Limit = codes "limit"
how_text Budget = codes "budget"

-- the greatest count that a closing line tells
abbrev pub greatest_count : ℕ
greatest_count = 2 ^ 64 - 1

-- "end", how it ended, and how many traces were printed
abbrev pub closing_line : How → ℕ → List ℕ
closing_line how count = codes "end " ++ how_text how ++ codes " " ++ decimal (min count greatest_count) ++ codes "\n"

-- all that is printed for the length n
abbrev pub print : Ground → ℕ → List (List (List ℕ)) → How → List ℕ
print program n traces how = header_line n ++ flat_map (trace_lines program) traces ++ closing_line how (length traces)
