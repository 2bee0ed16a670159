-- The command as it is built, and how it looks up a name.
use Rattle.std.proofs.Common.{◌≡◌, ℕ, Bool, true, false, cond, List, [], ◌∷◌, Option, Some, None, refl, codes}
use Rattle.std.specs.Prelude.{◌||◌, bytes_eq, find, option_map}
use Rattle.clap.specs.Words.{Rule, Text, is_simple}
use Rattle.clap.specs.Faults.{is_simple_and_free}
use Rattle.clap.specs.Simple.{Shape, built, filled, with_index}
use Rattle.clap.specs.Walk.{arg_by_id, arg_by_index, arg_by_long, arg_by_short}
use Rattle.clap.proofs.OnLiterals.{clap_on_literals}
use Rattle.tel_settings.specs.Names.{Name}
use Rattle.tel_settings.specs.Names as names
use Rattle.tel_settings.specs.Words.{all_names}
use Rattle.tel_settings.specs.Given.{app, option_rule, files_rule}

-- an option's name without its hyphens
abbrev pub id_of : Name → Text
id_of names.Imin = codes "imin"
id_of names.Imax = codes "imax"
id_of names.Istop = codes "istop"
id_of names.Models = codes "models"
id_of names.Conflicts = codes "conflicts"
id_of names.Generate = codes "generate"

abbrev pub files_id : Text
files_id = codes "files"

-- an option and the files as they are built
abbrev pub option_built : Text → Rule
option_built name = filled (option_rule name)

abbrev pub files_built : Rule
files_built = with_index 1 (filled files_rule)

abbrev pub shape : Shape
shape = (built app).top

abbrev pub rules : List Rule
rules = option_built (codes "imin") ∷ option_built (codes "imax") ∷ option_built (codes "istop") ∷ option_built (codes "models") ∷ option_built (codes "conflicts") ∷ option_built (codes "generate") ∷ files_built ∷ []

pub rules_are : shape.rules ≡ rules
rules_are = refl

pub app_is_simple : is_simple app ≡ true
unfolding clap_on_literals
app_is_simple = refl

pub app_is_free : is_simple_and_free app ≡ true
unfolding clap_on_literals
app_is_free = refl

-- the option of this name
abbrev pub lookup : Text → Option Name
lookup text = find (λ name. bytes_eq (id_of name) text) all_names

pub by_long : (text : Text) → arg_by_long rules text ≡ option_map (λ name. option_built (id_of name)) (lookup text)
by_long text = go (bytes_eq (codes "imin") text) (bytes_eq (codes "imax") text) (bytes_eq (codes "istop") text) (bytes_eq (codes "models") text) (bytes_eq (codes "conflicts") text) (bytes_eq (codes "generate") text)
  where
    go : (a b c d e f : Bool) → cond (a || false) (Some (option_built (codes "imin"))) (cond (b || false) (Some (option_built (codes "imax"))) (cond (c || false) (Some (option_built (codes "istop"))) (cond (d || false) (Some (option_built (codes "models"))) (cond (e || false) (Some (option_built (codes "conflicts"))) (cond (f || false) (Some (option_built (codes "generate"))) None))))) ≡ option_map (λ name. option_built (id_of name)) (cond a (Some names.Imin) (cond b (Some names.Imax) (cond c (Some names.Istop) (cond d (Some names.Models) (cond e (Some names.Conflicts) (cond f (Some names.Generate) None))))))
    go true b c d e f = refl
    go false true c d e f = refl
    go false false true d e f = refl
    go false false false true e f = refl
    go false false false false true f = refl
    go false false false false false true = refl
    go false false false false false false = refl

pub by_id : (name : Name) → arg_by_id rules (id_of name) ≡ Some (option_built (id_of name))
by_id names.Imin = refl
by_id names.Imax = refl
by_id names.Istop = refl
by_id names.Models = refl
by_id names.Conflicts = refl
by_id names.Generate = refl

pub files_by_id : arg_by_id rules files_id ≡ Some files_built
files_by_id = refl

pub by_index : arg_by_index rules 1 ≡ Some files_built
by_index = refl

pub by_short : (letter : ℕ) → arg_by_short rules letter ≡ None
by_short letter = refl

pub id_itself : (name : Name) → bytes_eq (id_of name) (id_of name) ≡ true
id_itself names.Imin = refl
id_itself names.Imax = refl
id_itself names.Istop = refl
id_itself names.Models = refl
id_itself names.Conflicts = refl
id_itself names.Generate = refl
