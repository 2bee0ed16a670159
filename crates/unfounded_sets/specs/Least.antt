-- The least set of supported variables.
use Rattle.std.specs.Prelude.{ℕ, suc, Bool, true, false, not, ◌&&◌, ◌||◌, List, [], ◌∷◌, slice_index_or, nat_lt, IsTrue}
use Rattle.std.specs.List.{list_all}
use Rattle.tel_base.specs.Literals.{lit_of}
use Rattle.normal_program.specs.declared.rules.NRule.{NRule}
use Rattle.normal_program.specs.Grounds.{Layers, is_head}
use Rattle.normal_program.specs.StableSets.{Set}
use Rattle.lit_trail.specs.declared.assignment.Entry.{Entry}
use Rattle.unfounded_sets.specs.Unfounded.{is_false, is_off, head_in}

-- the variables below a bound that may be in an unfounded set: head variables that aren't false
abbrev pub wanted_below : Layers → List Entry → ℕ → Set
wanted_below layers entries bound v = nat_lt v bound && (is_head layers.modules v && not (is_false entries (lit_of v)))

-- whether the wanted ones of these variables are in a set
abbrev pub all_of : Set → Set → List ℕ → Bool
all_of wanted X vars = list_all (λ v. not (wanted v) || X v) vars

-- whether a rule supports its head by a set: its body isn't false, its head is wanted, and its wanted atoms are in the set
abbrev pub supports : List Entry → Set → Set → NRule → Bool
supports entries wanted X rule = not (is_off entries rule) && head_in wanted rule.head && all_of wanted X rule.pos

abbrev pub keeps_rule : List Entry → Set → Set → NRule → Bool
keeps_rule entries wanted X rule = not (supports entries wanted X rule) || head_in X rule.head

-- whether a set has each head that is supported by it
abbrev pub is_kept : List NRule → List Entry → Set → Set → Bool
is_kept rules entries wanted X = list_all (keeps_rule entries wanted X) rules

-- the set that a table says
abbrev pub at : List Bool → Set
at table v = slice_index_or table v false

-- nothing came that isn't in each set that has what is supported by it, and what was there
abbrev pub LeastFrom : List NRule → List Entry → Set → List Bool → List Bool → Type 0
LeastFrom rules entries wanted old new =
    (X : Set) → IsTrue (is_kept rules entries wanted X) → ((v : ℕ) → IsTrue (at old v) → IsTrue (X v)) → (v : ℕ) → IsTrue (at new v) → IsTrue (X v)

-- how many variables aren't in it
abbrev pub missing : List Bool → ℕ
missing [] = 0
missing (true ∷ more) = missing more
missing (false ∷ more) = suc (missing more)
