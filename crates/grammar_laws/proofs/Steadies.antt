-- The reader of a production is steady, and takes the word that it begins with, where those of the things that are given do.
use Rattle.std.proofs.Common.{◌≡◌, ℕ, zero, suc, Bool, true, false, nat_lt, ◌&&◌}
use Rattle.std.proofs.lemmas.Bool.{false≢true}
use Rattle.grammar_laws.specs.Shapes.{Grammar, One}
use Rattle.grammar_laws.specs.Steps.{Reader, made, one, both, at_most, passes, or_also}
use Rattle.grammar_laws.specs.Productions.{Production, terminal, given, led, ended, ended_from, made_of, and, and_on, and_from, or, many, few, perhaps, means, begun_by, reader, first_of, behind}
use Rattle.grammar_laws.proofs.Readers.{nothing}
use Rattle.grammar_laws.proofs.Steady.{Steady, Takes, Moves, one-steady, one-takes, made-steady, made-takes, both-steady, both-steady_on, both-takes, either-steady, either-takes, maybe-steady, maybe-moves, at_most-steady, at_most-moves, each-steady, each-moves}
use Rattle.grammar_laws.proofs.ReadBy.{Read_by, Opened_by, one-read}
use Rattle.grammar_laws.proofs.Gains.{Gains, maybe-gains, at_most-gains, each-gains, from-takes}
use Rattle.grammar_laws.proofs.Sets.{none_of, and-first, and-second}
use Rattle.grammar_laws.proofs.Described.{Words, gone_on_by, begun_set, more_set, fine, apart-next, reads-it}

module _ {Word Known : Type 0} where
  -- what is steady of a production
  abbrev pub Keeps : Bool → {A : Type 0} → Reader Word Known A → (Word → Bool) → Type 0
  Keeps false read starts = Steady read × Takes read starts
  Keeps true read starts = Steady read × (Moves read × Gains read starts)

  both-keep : {A B : Type 0} (F : Grammar Word Known A) (G : Grammar Word Known B) (first : Reader Word Known A) (second : Reader Word Known B) (startsF moreF startsG moreG : Word → Bool) → Read_by F first startsF moreF → Read_by G second startsG moreG → Keeps false first startsF → Keeps false second startsG → Keeps false (both first second) startsF
  both-keep F G first second startsF moreF startsG moreG f g s t = (
    both-steady G first second moreG startsG f.reads.near g.reads g.begun t.0,
    both-takes F first second moreF startsF f.reads f.begun g.reads.near s.1,
  )

  both-keep_on : {A B : Type 0} (F : Grammar Word Known A) (G : Grammar Word Known B) (first : Reader Word Known A) (second : Reader Word Known B) (startsF moreF startsG moreG : Word → Bool) → Read_by F first startsF moreF → Opened_by G second startsG moreG → Keeps false first startsF → Keeps true second startsG → Keeps false (both first second) startsF
  both-keep_on F G first second startsF moreF startsG moreG f g s t = (
    both-steady_on first second s.0 f.reads.near g.reads.near t.0 t.1.0,
    both-takes F first second moreF startsF f.reads f.begun g.reads.near s.1,
  )

  both-keep_from : {A B : Type 0} (F : Grammar Word Known A) (G : Grammar Word Known B) (first : Reader Word Known A) (second : Reader Word Known B) (startsF moreF startsG moreG : Word → Bool) → Opened_by F first startsF moreF → Read_by G second startsG moreG → Keeps true first startsF → Keeps false second startsG → Keeps false (both first second) (or_also startsF startsG)
  both-keep_from F G first second startsF moreF startsG moreG f g s t = (
    both-steady G first second moreG startsG f.reads.near g.reads g.begun t.0,
    from-takes F G first second startsF moreF startsG moreG f s.1.0 s.1.1 g t.1,
  )

  made-keep : {A B : Type 0} (make : A → B) (read : Reader Word Known A) (starts : Word → Bool) → Keeps false read starts → Keeps false (made make read) starts
  made-keep make read starts s = (made-steady make read s.0, made-takes make read starts s.1)

  few-gains : {A : Type 0} (most : ℕ) (F : Grammar Word Known A) (read : Reader Word Known A) (starts more : Word → Bool) → nat_lt 0 most ≡ true → Read_by F read starts more → Gains (at_most most starts read) starts
  few-gains zero F read starts more is k = absurd (false≢true is)
  few-gains (suc most) F read starts more is k = at_most-gains most F read starts more k

module _ {Word Known T I : Type 0} {WordOf : T → Type 0} {Of : I → Type 0} (e : Words Word Known T WordOf I) (G : (i : I) → Grammar Word Known (Of i)) (read : (i : I) → Reader Word Known (Of i)) (k : (i : I) → Read_by (G i) (read i) (e.starts i) (e.more i)) (keeps : (i : I) → Keeps false (read i) (e.starts i)) where
  one-keeps : (t : T) → Keeps false (one (e.value t)) (passes (e.value t))
  one-keeps t = (one-steady (e.value t), one-takes (e.value t))

  pub keeps-it : {b : Bool} {A : Type 0} (p : Production T WordOf I Of b A) → fine e p ≡ true → Keeps b (reader e.value e.starts read p) (begun_by e.value e.starts p)
  keeps-it (terminal t) ok = one-keeps t
  keeps-it (given i) ok = keeps i
  keeps-it (led t p) ok =
      made-keep behind (both (one (e.value t)) (reader e.value e.starts read p)) (passes (e.value t))
      (both-keep (One (e.value t)) (means e.value G p) (one (e.value t)) (reader e.value e.starts read p) (passes (e.value t)) nothing (begun_by e.value e.starts p) (gone_on_by e p) (one-read (e.value t) (e.some t)) (reads-it e G read k p ok) (one-keeps t) (keeps-it p ok))
  keeps-it (ended p t) ok =
      let part = and-second (none_of (e.word_set t) (more_set e p)) (fine e p) ok in
      made-keep first_of (both (reader e.value e.starts read p) (one (e.value t))) (begun_by e.value e.starts p)
      (both-keep (means e.value G p) (One (e.value t)) (reader e.value e.starts read p) (one (e.value t)) (begun_by e.value e.starts p) (gone_on_by e p) (passes (e.value t)) nothing (reads-it e G read k p part) (one-read (e.value t) (e.some t)) (keeps-it p part) (one-keeps t))
  keeps-it (ended_from p t) ok =
      let part = and-second (none_of (e.word_set t) (more_set e p)) (fine e p) ok in
      made-keep first_of (both (reader e.value e.starts read p) (one (e.value t))) (or_also (begun_by e.value e.starts p) (passes (e.value t)))
      (both-keep_from (means e.value G p) (One (e.value t)) (reader e.value e.starts read p) (one (e.value t)) (begun_by e.value e.starts p) (gone_on_by e p) (passes (e.value t)) nothing (reads-it e G read k p part) (one-read (e.value t) (e.some t)) (keeps-it p part) (one-keeps t))
  keeps-it (made_of make p) ok = made-keep make (reader e.value e.starts read p) (begun_by e.value e.starts p) (keeps-it p ok)
  keeps-it (and p q) ok =
      let parts = and-second (none_of (begun_set e q) (more_set e p)) (fine e p && fine e q) ok in
      let p_ok = and-first (fine e p) (fine e q) parts in
      let q_ok = and-second (fine e p) (fine e q) parts in
      both-keep (means e.value G p) (means e.value G q) (reader e.value e.starts read p) (reader e.value e.starts read q) (begun_by e.value e.starts p) (gone_on_by e p) (begun_by e.value e.starts q) (gone_on_by e q) (reads-it e G read k p p_ok) (reads-it e G read k q q_ok) (keeps-it p p_ok) (keeps-it q q_ok)
  keeps-it (and_on p q) ok =
      let parts = and-second (none_of (begun_set e q) (more_set e p)) (fine e p && fine e q) ok in
      let p_ok = and-first (fine e p) (fine e q) parts in
      let q_ok = and-second (fine e p) (fine e q) parts in
      both-keep_on (means e.value G p) (means e.value G q) (reader e.value e.starts read p) (reader e.value e.starts read q) (begun_by e.value e.starts p) (gone_on_by e p) (begun_by e.value e.starts q) (gone_on_by e q) (reads-it e G read k p p_ok) (reads-it e G read k q q_ok) (keeps-it p p_ok) (keeps-it q q_ok)
  keeps-it (and_from p q) ok =
      let parts = and-second (none_of (begun_set e q) (more_set e p)) (fine e p && fine e q) ok in
      let p_ok = and-first (fine e p) (fine e q) parts in
      let q_ok = and-second (fine e p) (fine e q) parts in
      both-keep_from (means e.value G p) (means e.value G q) (reader e.value e.starts read p) (reader e.value e.starts read q) (begun_by e.value e.starts p) (gone_on_by e p) (begun_by e.value e.starts q) (gone_on_by e q) (reads-it e G read k p p_ok) (reads-it e G read k q q_ok) (keeps-it p p_ok) (keeps-it q q_ok)
  keeps-it (or p q) ok =
      let parts = and-second (none_of (begun_set e q) (begun_set e p)) (fine e p && fine e q) ok in
      let p_ok = and-first (fine e p) (fine e q) parts in
      let q_ok = and-second (fine e p) (fine e q) parts in
      let f = reads-it e G read k p p_ok in
      let g = reads-it e G read k q q_ok in
      let s = keeps-it p p_ok in
      let t = keeps-it q q_ok in (
        either-steady (means e.value G p) (means e.value G q) (reader e.value e.starts read p) (reader e.value e.starts read q) (gone_on_by e p) (gone_on_by e q) (begun_by e.value e.starts p) (begun_by e.value e.starts q) f.reads g.reads f.begun g.begun s.0 t.0,
        either-takes (reader e.value e.starts read p) (reader e.value e.starts read q) (begun_by e.value e.starts p) (begun_by e.value e.starts q) s.1 t.1,
      )
  keeps-it (many p) ok =
      let p_ok = and-second (none_of (begun_set e p) (more_set e p)) (fine e p) ok in
      let apart = apart-next e p p (and-first (none_of (begun_set e p) (more_set e p)) (fine e p) ok) in
      let f = reads-it e G read k p p_ok in
      let s = keeps-it p p_ok in (
        each-steady (means e.value G p) (reader e.value e.starts read p) (gone_on_by e p) (begun_by e.value e.starts p) f.reads f.begun apart s.1 s.0,
        (each-moves (means e.value G p) (reader e.value e.starts read p) (gone_on_by e p) (begun_by e.value e.starts p) f.reads f.begun s.1, each-gains (means e.value G p) (reader e.value e.starts read p) (begun_by e.value e.starts p) (gone_on_by e p) f),
      )
  keeps-it (few most p) ok =
      let rest_ok = and-second (nat_lt 0 most) (none_of (begun_set e p) (more_set e p) && fine e p) ok in
      let p_ok = and-second (none_of (begun_set e p) (more_set e p)) (fine e p) rest_ok in
      let apart = apart-next e p p (and-first (none_of (begun_set e p) (more_set e p)) (fine e p) rest_ok) in
      let f = reads-it e G read k p p_ok in
      let s = keeps-it p p_ok in (
        at_most-steady (means e.value G p) (reader e.value e.starts read p) (gone_on_by e p) (begun_by e.value e.starts p) f.reads f.begun apart s.1 s.0 most,
        (
          at_most-moves (means e.value G p) (reader e.value e.starts read p) (gone_on_by e p) (begun_by e.value e.starts p) f.reads f.begun s.1 most,
          few-gains most (means e.value G p) (reader e.value e.starts read p) (begun_by e.value e.starts p) (gone_on_by e p) (and-first (nat_lt 0 most) (none_of (begun_set e p) (more_set e p) && fine e p) ok) f,
        ),
      )
  keeps-it (perhaps p) ok =
      let f = reads-it e G read k p ok in
      let s = keeps-it p ok in (
        maybe-steady (reader e.value e.starts read p) (begun_by e.value e.starts p) s.0 s.1,
        (maybe-moves (reader e.value e.starts read p) (begun_by e.value e.starts p) s.1, maybe-gains (means e.value G p) (reader e.value e.starts read p) (begun_by e.value e.starts p) (gone_on_by e p) f),
      )
