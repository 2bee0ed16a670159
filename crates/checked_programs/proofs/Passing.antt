-- A relation of points that each word and each given thing keeps is kept by what a production reads: one induction over productions.
use Rattle.std.proofs.Common.{◌⊎◌, inl, inr, Bool, [], ◌∷◌, Option, Some, None, subst}
use Rattle.grammar_laws.specs.Points.{Point}
use Rattle.grammar_laws.specs.Shapes.{Grammar, One, Then, Each, Maybe}
use Rattle.grammar_laws.specs.Productions.{Production, terminal, given, led, ended, ended_from, made_of, and, and_on, and_from, or, many, few, perhaps, means}

-- each thing stands between points that are related
abbrev pub Passes : {Word Known A : Type 0} → (Point Word Known → Point Word Known → Type 0) → Grammar Word Known A → Type 0
Passes {Word} {Known} {A} R G = (from : Point Word Known) (thing : A) (to : Point Word Known) → G from thing to → R from to

module _ {Word Known : Type 0} (R : Point Word Known → Point Word Known → Type 0) (now : (point : Point Word Known) → R point point) (then : (a b c : Point Word Known) → R a b → R b c → R a c) where
  pub then-passes : {A B : Type 0} (G : Grammar Word Known A) (H : Grammar Word Known B) → Passes R G → Passes R H → Passes R (Then G H)
  then-passes G H g h from both to r = then from r.middle to (g from both.0 r.middle r.first) (h r.middle both.1 to r.second)

  pub each-passes : {A : Type 0} (G : Grammar Word Known A) → Passes R G → Passes R (Each G)
  each-passes G g from [] to r = subst (λ (point : Point Word Known). R from point) r (now from)
  each-passes G g from (thing ∷ things) to r = then from r.0 to (g from thing r.0 r.1) (each-passes G g r.0 things to r.2)

  maybe-passes : {A : Type 0} (G : Grammar Word Known A) → Passes R G → Passes R (Maybe G)
  maybe-passes G g from None to r = subst (λ (point : Point Word Known). R from point) r (now from)
  maybe-passes G g from (Some thing) to r = g from thing to r

  pub either-passes : {A : Type 0} (G H : Grammar Word Known A) → Passes R G → Passes R H → Passes R (λ from thing to. G from thing to ⊎ H from thing to)
  either-passes G H g h from thing to (inl r) = g from thing to r
  either-passes G H g h from thing to (inr r) = h from thing to r

  module _ {T I : Type 0} {WordOf : T → Type 0} {Thing : I → Type 0} (value : (t : T) → Word → Option (Known → WordOf t × Known)) (G : (i : I) → Grammar Word Known (Thing i)) (words : (t : T) → Passes R (One (value t))) (things : (i : I) → Passes R (G i)) where
    pub passes-it : {b : Bool} {A : Type 0} (p : Production T WordOf I Thing b A) → Passes R (means value G p)
    passes-it (terminal t) = words t
    passes-it (given i) = things i
    passes-it (led t p) = λ from thing to r. then-passes (One (value t)) (means value G p) (words t) (passes-it p) from r.of to r.reads
    passes-it (ended p t) = λ from thing to r. then-passes (means value G p) (One (value t)) (passes-it p) (words t) from r.of to r.reads
    passes-it (ended_from p t) = λ from thing to r. then-passes (means value G p) (One (value t)) (passes-it p) (words t) from r.of to r.reads
    passes-it (made_of make p) = λ from thing to r. passes-it p from r.of to r.reads
    passes-it (and p q) = then-passes (means value G p) (means value G q) (passes-it p) (passes-it q)
    passes-it (and_on p q) = then-passes (means value G p) (means value G q) (passes-it p) (passes-it q)
    passes-it (and_from p q) = then-passes (means value G p) (means value G q) (passes-it p) (passes-it q)
    passes-it (or p q) = either-passes (means value G p) (means value G q) (passes-it p) (passes-it q)
    passes-it (many p) = each-passes (means value G p) (passes-it p)
    passes-it (few most p) = λ from things to r. each-passes (means value G p) (passes-it p) from things to r.1
    passes-it (perhaps p) = maybe-passes (means value G p) (passes-it p)
