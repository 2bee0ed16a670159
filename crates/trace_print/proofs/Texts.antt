-- The texts of atoms and of their arguments.
use Rattle.std.proofs.Common.{◌≡◌, ℕ, zero, suc, ◌-◌, ◌<◌, Bool, true, false, List, [], ◌∷◌, ◌++◌, length, take, drop, get_or, codes, Some, sym, ap, subst, ◌∙◌, arith}
use Rattle.std.specs.Prelude.{slice_get, if◌then◌else◌}
use Rattle.std.specs.List.{flat_map, list_all}
use Rattle.std.proofs.lemmas.Bool.{and_parts}
use Rattle.std.proofs.lemmas.Option.{get_or_from_slice_get, slice_get_within}
use Rattle.std.proofs.lemmas.List.{get_or-map, take_all}
use Rattle.tel_term.specs.declared.terms.Term.{Term}
use Rattle.tel_term.specs.declared.terms.Term.TheVariants as terms
use Rattle.tel_term.specs.declared.terms.Value.{Value}
use Rattle.tel_rule.specs.declared.ground.GroundAtom.{GroundAtom}
use Rattle.tel_rule.specs.Atoms.{name_bytes, name_of}
use Rattle.tel_rule.specs.Ground.{Ground}
use Rattle.tel_semantics.specs.Print.{value_text, next_text, args_text, sign_text, ground_text, is_shown, numbered_text, atom_text}

pub args_text-some : (symbols : List Term) (args : List Value) (d : Value) → 0 < length args → args_text symbols args ≡ codes "(" ++ value_text symbols (get_or args 0 d) ++ flat_map (next_text symbols) (take (length args - 1) (drop 1 args)) ++ codes ")"
args_text-some symbols [] d some = absurd (omega arith)
args_text-some symbols (first ∷ more) d some =
    ap (λ (rest : List Value). codes "(" ++ value_text symbols first ++ flat_map (next_text symbols) rest ++ codes ")") (sym (take_all (length (first ∷ more) - 1) more (omega arith)))

-- the parts of an atom's text
pub ground-parts : (symbols : List Term) (atom : GroundAtom) (sign name args : List ℕ) → sign ≡ sign_text atom.negative → name ≡ name_of symbols atom → args ≡ args_text symbols atom.args → sign ++ name ++ args ≡ ground_text symbols atom
unfolding ground_text
ground-parts symbols atom sign name args s n a = λ i. s i ++ n i ++ a i

pub name_read : (symbols : List Term) (atom : GroundAtom) (term : Term) (name : List ℕ) → slice_get symbols atom.name ≡ Some term → name ≡ name_bytes term → name ≡ name_of symbols atom
name_read symbols atom term name found same =
    same ∙ ap name_bytes (sym (get_or_from_slice_get symbols atom.name term (terms.Name []) found))

all-at : {X : Type 0} (p : X → Bool) (xs : List X) (i : ℕ) (d : X) → list_all p xs ≡ true → i < length xs → p (get_or xs i d) ≡ true
all-at p [] i d h within = absurd (omega arith)
all-at p (x ∷ xs) zero d h within = (and_parts (p x) (list_all p xs) h).0
all-at p (x ∷ xs) (suc i) d h within = all-at p xs i d (and_parts (p x) (list_all p xs) h).1 (omega arith)

-- what holds of each holds of the one that is there
pub all-there : {X : Type 0} (p : X → Bool) (xs : List X) (i : ℕ) (x : X) → list_all p xs ≡ true → slice_get xs i ≡ Some x → p x ≡ true
all-there p xs i x h there =
    subst (λ y. p y ≡ true) (get_or_from_slice_get xs i x x there) (all-at p xs i x h (slice_get_within xs i x there))

-- an atom that is there, in the program or in what was seen of it
pub numbered-there : (program seen : Ground) (atom : ℕ) (found : GroundAtom) → seen ≡ program → slice_get seen.atoms atom ≡ Some found → numbered_text program atom ≡ ground_text seen.symbols found
unfolding numbered_text
numbered-there program seen atom found same there =
    ap (λ (p : Ground). numbered_text p atom) (sym same)
    ∙ get_or-map (ground_text seen.symbols) seen.atoms atom found [] (slice_get_within seen.atoms atom found there)
    ∙ ap (ground_text seen.symbols) (get_or_from_slice_get seen.atoms atom found found there)

pub hidden : (program : Ground) (atom : ℕ) → is_shown program.show atom ≡ false → atom_text program atom ≡ []
unfolding atom_text
hidden program atom is = ap (λ (b : Bool). if b then 32 ∷ numbered_text program atom else []) is

pub shown : (program : Ground) (atom : ℕ) → is_shown program.show atom ≡ true → atom_text program atom ≡ codes " " ++ numbered_text program atom
unfolding atom_text
shown program atom is = ap (λ (b : Bool). if b then 32 ∷ numbered_text program atom else []) is
