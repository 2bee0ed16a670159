-- What several calls in a row add to bytes that may be told or not, and to counts of failed calls.
use Rattle.std.specs.Prelude.{◌≡◌, ℕ, ◌+◌, ◌≤◌, List, [], ◌++◌, Option, Some, None, Result, Ok, Err, OnOk, OnErr, take, length}
use Rattle.std.proofs.Common.{refl, sym, ◌∙◌, ap, subst, arith, append_assoc, length-append, append-nil}
use Rattle.std.proofs.Math.Seq.{take-append-add, take-append_seam, take-length}
use Rattle.std.proofs.lemmas.List.{take-append-le}
use Rattle.tel_base.specs.Bytes.{Appends, AppendsFront}
use Rattle.tel_base.specs.Counts.{Rose, Stands, HasCause}

-- nothing is added by an empty piece
pub appends-nothing : (bytes : Option (List ℕ)) → Appends bytes bytes []
appends-nothing None = refl
appends-nothing (Some x) = ap Some (sym (append-nil x))

-- two pieces one after the other are one piece
pub appends-then : (old mid new : Option (List ℕ)) (a b : List ℕ) → Appends old mid a → Appends mid new b → Appends old new (a ++ b)
appends-then None mid new a b e f = rw e at f
appends-then (Some x) mid new a b e f = (rw e at f) ∙ ap Some (append_assoc x a b)

-- the same for a piece that is given as its parts
pub appends-parts : (old mid new : Option (List ℕ)) (a b whole : List ℕ) → whole ≡ a ++ b → Appends old mid a → Appends mid new b → Appends old new whole
appends-parts old mid new a b whole w e f = rw w (appends-then old mid new a b e f)

-- a front of the second piece, after the first, is a front of both
pub front-then : (old mid new : Option (List ℕ)) (a b : List ℕ) → Appends old mid a → AppendsFront mid new b → AppendsFront old new (a ++ b)
front-then old mid new a b e f =
    (length a + f.0, rw length-append (omega arith), rw take-append-add (appends-then old mid new a (take f.0 b) e f.2))

-- the whole first piece is a front of both
pub front-of-first : (old new : Option (List ℕ)) (a b : List ℕ) → Appends old new a → AppendsFront old new (a ++ b)
front-of-first old new a b e =
    (length a, rw length-append (omega arith), rw take-append_seam e)

-- a front of the first piece is a front of both
pub front-in-first : (old new : Option (List ℕ)) (a b : List ℕ) → AppendsFront old new a → AppendsFront old new (a ++ b)
front-in-first old new a b f =
    (f.0, rw length-append (omega arith), rw (take-append-le f.0 a b f.1) f.2)

-- a whole piece is a front of itself
pub front-of-whole : (old new : Option (List ℕ)) (a : List ℕ) → Appends old new a → AppendsFront old new a
front-of-whole old new a e = (length a, omega arith, rw take-length e)

-- where nothing was added, the front is empty
pub front-of-nothing : (old new : Option (List ℕ)) (a : List ℕ) → new ≡ old → AppendsFront old new a
front-of-nothing old new a e = (0, omega arith, e ∙ appends-nothing old)

-- a count that rose, and didn't fall after, has risen
pub rose-then : (a b c : ℕ) → Rose a b → b ≤ c → Rose a c
rose-then a b c r l = omega arith

-- a count that rose, and hadn't fallen before, has risen
pub rose-after : (a b c : ℕ) → a ≤ b → Rose b c → Rose a c
rose-after a b c l r = omega arith

-- a count that stands over the whole way stands over each part of it
pub stands-parts : (a b c : ℕ) → a ≤ b → b ≤ c → Stands a c → Stands a b × Stands b c
stands-parts a b c l m s = ((omega arith, omega arith), (omega arith, omega arith))

-- a count can't both stand and have risen
pub stands-not-rose : (a b : ℕ) → Stands a b → Rose a b → ⊥
stands-not-rose a b s r = omega arith

-- no call
pub cause-nothing : {T E : Type 0} (a : ℕ) (x : T) → HasCause {T = T} {E = E} a a (Ok x)
cause-nothing a x = record { falls_never = omega arith; stands = refl; rose = tt }

-- a call that went well, and then another
pub cause-then : {T E U D : Type 0} (a b c : ℕ) (x : T) (result : Result U D) → HasCause {E = E} a b (Ok x) → HasCause b c result → HasCause a c result
cause-then a b c x result h k = subst (λ (n : ℕ). HasCause n c result) h.stands k

-- a fault that is handed up
pub cause-up : {T E U D : Type 0} (a b : ℕ) (e : E) (d : D) → HasCause {T = T} a b (Err e) → HasCause {T = U} a b (Err d)
cause-up a b e d h = record { falls_never = h.falls_never; stands = tt; rose = h.rose }

-- a value that is handed up
pub cause-on : {T E U D : Type 0} (a b : ℕ) (x : T) (y : U) → HasCause {E = E} a b (Ok x) → HasCause {E = D} a b (Ok y)
cause-on a b x y h = record { falls_never = h.falls_never; stands = h.stands; rose = tt }

-- the same of a call whose answer is handed up: what is said of an Ok
pub appends-then-ok : {T E : Type 0} (result : Result T E) (old mid new : Option (List ℕ)) (a b : List ℕ)
    → Appends old mid a → OnOk result (Appends mid new b) → OnOk result (Appends old new (a ++ b))
appends-then-ok (Ok x) old mid new a b e f = appends-then old mid new a b e f
appends-then-ok (Err x) old mid new a b e f = tt

-- and what is said of an Err
pub front-then-err : {T E : Type 0} (result : Result T E) (old mid new : Option (List ℕ)) (a b : List ℕ)
    → Appends old mid a → OnErr result (AppendsFront mid new b) → OnErr result (AppendsFront old new (a ++ b))
front-then-err (Ok x) old mid new a b e f = tt
front-then-err (Err x) old mid new a b e f = front-then old mid new a b e f

-- the steps of several calls in a row
pub ruleset in_a_row = (appends-then, front-then, front-in-first, front-of-first, appends-then-ok, front-then-err, cause-then, cause-up)
