-- What several pieces in a row have done.
use Rattle.std.specs.Prelude.{◌≡◌, ℕ, List, [], ◌++◌, Option, Result, Ok, Err, OnOk, OnErr}
use Rattle.std.proofs.Common.{refl, sym, ◌∙◌, ap, subst, append_assoc, append-nil}
use Rattle.tel_base.specs.Bytes.{Appends, AppendsFront}
use Rattle.tel_base.specs.declared.outside.Failed.{Failed}
use Rattle.tel_base.proofs.Told.{appends-nothing, appends-then, front-then, front-in-first, cause-nothing, cause-then}
use Rattle.proof_log.specs.Waiting.{Moved, Puts, Writes}

-- the bytes that waited and two pieces, the second put after the first
moved-then : (old mid new : Option (List ℕ)) (a b p q r : List ℕ)
    → Moved old mid (p ++ a) q → Moved mid new (q ++ b) r → Moved old new (p ++ (a ++ b)) r
moved-then old mid new a b p q r m n = (
  m.0 ++ n.0,
  sym (append_assoc p a b) ∙ ap (λ x. x ++ b) m.1 ∙ append_assoc m.0 q b ∙ ap (λ x. m.0 ++ x) n.1 ∙ sym (append_assoc m.0 n.0 r),
  appends-then old mid new m.0 n.0 m.2 n.2,
)

-- the same where the second was cut short
front-after : (old mid new : Option (List ℕ)) (a b p q : List ℕ)
    → Moved old mid (p ++ a) q → AppendsFront mid new (q ++ b) → AppendsFront old new (p ++ (a ++ b))
front-after old mid new a b p q m f =
    let whole : m.0 ++ (q ++ b) ≡ p ++ (a ++ b) = sym (append_assoc m.0 q b) ∙ ap (λ x. x ++ b) (sym m.1) ∙ append_assoc p a b in
    subst (λ (w : List ℕ). AppendsFront old new w) whole (front-then old mid new m.0 (q ++ b) m.2 f)

ok-then : {T E : Type 0} (result : Result T E) (old mid new : Option (List ℕ)) (a b p q r : List ℕ)
    → Moved old mid (p ++ a) q → OnOk result (Moved mid new (q ++ b) r) → OnOk result (Moved old new (p ++ (a ++ b)) r)
ok-then (Ok x) old mid new a b p q r m n = moved-then old mid new a b p q r m n
ok-then (Err e) old mid new a b p q r m n = tt

err-then : {T E : Type 0} (result : Result T E) (old mid new : Option (List ℕ)) (a b p q : List ℕ)
    → Moved old mid (p ++ a) q → OnErr result (AppendsFront mid new (q ++ b)) → OnErr result (AppendsFront old new (p ++ (a ++ b)))
err-then (Ok x) old mid new a b p q m f = tt
err-then (Err e) old mid new a b p q m f = front-after old mid new a b p q m f

-- a piece that is put after another
pub puts-then : {T E : Type 0} {x : T} {result : Result T E} {a b : List ℕ} {old mid new : Option (List ℕ)} {p q r : List ℕ} {before between now : ℕ}
    → Puts {E = E} (Ok x) a old mid p q before between → Puts result b mid new q r between now → Puts result (a ++ b) old new p r before now
puts-then {T} {E} {x} {result} {a} {b} {old} {mid} {new} {p} {q} {r} {before} {between} {now} first then = record {
  ok = ok-then result old mid new a b p q r first.ok then.ok;
  err = err-then result old mid new a b p q first.ok then.err;
  cause = cause-then before between now x result first.cause then.cause;
}

-- a piece that was cut short, where another was to follow
pub puts-short : {T E : Type 0} {e : E} {a : List ℕ} (b : List ℕ) {old new : Option (List ℕ)} {p q : List ℕ} {before now : ℕ}
    → Puts {T = T} (Err e) a old new p q before now → Puts {T = T} (Err e) (a ++ b) old new p q before now
puts-short {T} {E} {e} {a} b {old} {new} {p} {q} {before} {now} short = record {
  ok = tt;
  err = subst (λ (w : List ℕ). AppendsFront old new w) (append_assoc p a b) (front-in-first old new (p ++ a) b short.err);
  cause = short.cause;
}

-- nothing was put
pub puts-none : {T E : Type 0} {x : T} {old : Option (List ℕ)} {p : List ℕ} {before : ℕ} → Puts {E = E} (Ok x) [] old old p p before before
puts-none {T} {E} {x} {old} {p} {before} = record {
  ok = ([], append-nil p, appends-nothing old);
  err = tt;
  cause = cause-nothing before x;
}

-- all that waited was written, and so it is as if nothing had been put
pub puts-nothing : {T E : Type 0} {x : T} {old new : Option (List ℕ)} {p q : List ℕ} {before now : ℕ}
    → Writes {E = E} (Ok x) p old new before now → q ≡ [] → Puts {E = E} (Ok x) [] old new p q before now
puts-nothing {T} {E} {x} {old} {new} {p} {q} {before} {now} writes empty = record {
  ok = (p, ap (λ rest. p ++ rest) (sym empty), writes.ok);
  err = tt;
  cause = writes.cause;
}

-- what a call that writes the rest of a piece has written of the piece
whole : {T E : Type 0} (result : Result T E) (old mid new : Option (List ℕ)) (a q : List ℕ)
    → Moved old mid a q → OnOk result (Appends mid new q) → OnOk result (Appends old new a)
whole (Ok x) old mid new a q m e = rw m.1 (appends-then old mid new m.0 q m.2 e)
whole (Err x) old mid new a q m e = tt

front : {T E : Type 0} (result : Result T E) (old mid new : Option (List ℕ)) (a q : List ℕ)
    → Moved old mid a q → OnErr result (AppendsFront mid new q) → OnErr result (AppendsFront old new a)
front (Ok x) old mid new a q m f = tt
front (Err x) old mid new a q m f = rw m.1 (front-then old mid new m.0 q m.2 f)

-- a piece was put, and then all that waited was written
pub writes-all : {T E : Type 0} {x : T} {result : Result T E} {a : List ℕ} {old mid new : Option (List ℕ)} {p q : List ℕ} {before between now : ℕ}
    → p ≡ [] → Puts {E = E} (Ok x) a old mid p q before between → Writes result q mid new between now → Writes result a old new before now
writes-all {T} {E} {x} {result} {a} {old} {mid} {new} {p} {q} {before} {between} {now} none first last = record {
  ok = whole result old mid new a q (rw none at first.ok) last.ok;
  err = front result old mid new a q (rw none at first.ok) last.err;
  cause = cause-then before between now x result first.cause last.cause;
}

-- a piece was cut short, and nothing had waited before it
pub writes-short : {T E : Type 0} {e : E} {a : List ℕ} {old new : Option (List ℕ)} {p q : List ℕ} {before now : ℕ}
    → p ≡ [] → Puts {T = T} (Err e) a old new p q before now → Writes {T = T} (Err e) a old new before now
writes-short none short = record { ok = tt; err = rw none at short.err; cause = short.cause }

-- the pieces of a whole up to some place were put, and the rest is to follow
pub record PutSoFar (all rest : List ℕ) (old new : Option (List ℕ)) (waited waits : List ℕ) (before now : ℕ) : Type 0 where
  pub done : List ℕ
  pub parts : all ≡ done ++ rest
  pub puts : Puts {T = Unit {0}} {E = Failed} (Ok tt) done old new waited waits before now

pub so_far-start : (all : List ℕ) (old : Option (List ℕ)) (p : List ℕ) (before : ℕ) → PutSoFar all all old old p p before before
so_far-start all old p before = record {
  done = [];
  parts = refl;
  puts = record {
    ok = ([], append-nil p, appends-nothing old);
    err = tt;
    cause = cause-nothing before tt;
  };
}

pub so_far-step : {all here a rest : List ℕ} {x : Unit {0}} {old mid new : Option (List ℕ)} {p q r : List ℕ} {before between now : ℕ}
    → here ≡ a ++ rest → PutSoFar all here old mid p q before between → Puts {E = Failed} (Ok x) a mid new q r between now → PutSoFar all rest old new p r before now
so_far-step {all} {here} {a} {rest} parts so_far then = record {
  done = so_far.done ++ a;
  parts = so_far.parts ∙ ap (λ x. so_far.done ++ x) parts ∙ sym (append_assoc so_far.done a rest);
  puts = puts-then so_far.puts then;
}

pub so_far-short : {all here a : List ℕ} (rest : List ℕ) {e : Failed} {old mid new : Option (List ℕ)} {p q r : List ℕ} {before between now : ℕ}
    → here ≡ a ++ rest → PutSoFar all here old mid p q before between → Puts {T = Unit {0}} (Err e) a mid new q r between now → Puts {T = Unit {0}} (Err e) all old new p r before now
so_far-short {all} {here} {a} rest parts so_far short = rw (so_far.parts, parts) (puts-then so_far.puts (puts-short rest short))

pub so_far-end : {all : List ℕ} {x : Unit {0}} {old new : Option (List ℕ)} {p q : List ℕ} {before now : ℕ}
    → PutSoFar all [] old new p q before now → Puts {E = Failed} (Ok x) all old new p q before now
so_far-end so_far = rw (so_far.parts, append-nil so_far.done) so_far.puts
