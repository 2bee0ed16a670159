-- What is written by one call after another.
use Rattle.std.proofs.Common.{◌≡◌, ℕ, suc, ◌<◌, List, ◌∷◌, ◌++◌, length, take, drop, get_or, Option, Result, Ok, Err, sym, ap, ◌∙◌, arith}
use Rattle.std.specs.List.{flat_map}
use Rattle.std.proofs.Math.Seq.{drop-cons}
use Rattle.std.proofs.lemmas.List.{take-append-drop}
use Rattle.std.proofs.lemmas.Grind.{flat_map-append}
use Rattle.tel_base.specs.Bytes.{Appends}
use Rattle.tel_base.proofs.Told.{appends-then, front-then, front-in-first, cause-then, cause-up}
use Rattle.trace_print.specs.Waiting.{Writes}

-- a call that writes b, after one that has written a
pub writes-then : {T U E D : Type 0} (x : T) (result : Result U D) (a b : List ℕ) (old mid new : Option (List ℕ)) (before between now : ℕ) → Writes {E = E} (Ok x) a old mid before between → Writes result b mid new between now → Writes result (a ++ b) old new before now
writes-then x (Ok y) a b old mid new before between now first then = record {
  ok = appends-then old mid new a b first.ok then.ok;
  err = tt;
  cause = cause-then before between now x (Ok y) first.cause then.cause;
}
writes-then x (Err e) a b old mid new before between now first then = record {
  ok = tt;
  err = front-then old mid new a b first.ok then.err;
  cause = cause-then before between now x (Err e) first.cause then.cause;
}

-- the same after calls of which is known that they added a and that the count stands
pub writes-after : {U D : Type 0} (result : Result U D) (a b : List ℕ) (old mid new : Option (List ℕ)) (before between now : ℕ) → Appends old mid a → between ≡ before → Writes result b mid new between now → Writes result (a ++ b) old new before now
writes-after {D = D} result a b old mid new before between now first stands then =
    let unit : Unit {0} = tt in
    writes-then {E = D} unit result a b old mid new before between now (record { ok = first; err = tt; cause = record { falls_never = omega (arith, stands); stands = stands; rose = tt } }) then

-- a fault at a type of values
abbrev pub fault_at : (T : Type 0) {E : Type 0} → E → Result T E
fault_at T e = Err e

-- a call that was cut short while it wrote a, where b was to follow
pub writes-short : (T U : Type 0) {E : Type 0} (e : E) (a b : List ℕ) (old new : Option (List ℕ)) (before now : ℕ) → Writes (fault_at T e) a old new before now → Writes (fault_at U e) (a ++ b) old new before now
writes-short T U e a b old new before now short = record {
  ok = tt;
  err = front-in-first old new a b short.err;
  cause = cause-up before now e e short.cause;
}

-- the pieces of a list, as those before a place, the one there and those after it
pub flat_map_at : {X : Type 0} (f : X → List ℕ) (xs : List X) (i : ℕ) (x : X) → i < length xs → x ≡ get_or xs i x → flat_map f xs ≡ flat_map f (take i xs) ++ (f x ++ flat_map f (drop (suc i) xs))
flat_map_at f xs i x within there =
    let parts : xs ≡ take i xs ++ (x ∷ drop (suc i) xs) = sym (take-append-drop i xs) ∙ ap (λ rest. take i xs ++ rest) (drop-cons xs i x within ∙ ap (λ y. y ∷ drop (suc i) xs) (sym there)) in
    ap (flat_map f) parts ∙ flat_map-append f (take i xs) (x ∷ drop (suc i) xs)
