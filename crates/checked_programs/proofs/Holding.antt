-- What holds of the things of which a thing is read holds of what a production makes of them: one induction over productions.
use Rattle.std.proofs.Common.{◌≡◌, ◌⊎◌, inl, inr, Bool, List, [], ◌∷◌, Option, Some, None, sym, subst}
use Rattle.grammar_laws.specs.Points.{Point}
use Rattle.grammar_laws.specs.Shapes.{Grammar, One, Then, Made, Each, Maybe}
use Rattle.grammar_laws.specs.Productions.{Production, terminal, given, led, ended, ended_from, made_of, and, and_on, and_from, or, many, few, perhaps, means}

-- ---- what holds of things, where so much is known

pub record OfMade {Known A B : Type 0} (make : A → B) (F : A → Known → Type 0) (thing : B) (known : Known) : Type 0 where
  pub of : A
  pub is : thing ≡ make of
  pub holds : F of known

abbrev pub OfEach : {Known A : Type 0} → (A → Known → Type 0) → List A → Known → Type 0
OfEach F [] known = Unit {0}
OfEach F (thing ∷ things) known = F thing known × OfEach F things known

abbrev pub OfMaybe : {Known A : Type 0} → (A → Known → Type 0) → Option A → Known → Type 0
OfMaybe F None known = Unit {0}
OfMaybe F (Some thing) known = F thing known

-- of a thing that a production makes, where W holds of words and P of given things
abbrev pub Holds : {Known T I : Type 0} {WordOf : T → Type 0} {Thing : I → Type 0} → ((t : T) → WordOf t → Known → Type 0) → ((i : I) → Thing i → Known → Type 0) → {b : Bool} {A : Type 0} → Production T WordOf I Thing b A → A → Known → Type 0
Holds W P (terminal t) = W t
Holds W P (given i) = P i
Holds W P (led t p) = Holds W P p
Holds W P (ended p t) = Holds W P p
Holds W P (ended_from p t) = Holds W P p
Holds W P (made_of make p) = OfMade make (Holds W P p)
Holds W P (and p q) = λ both known. Holds W P p both.0 known × Holds W P q both.1 known
Holds W P (and_on p q) = λ both known. Holds W P p both.0 known × Holds W P q both.1 known
Holds W P (and_from p q) = λ both known. Holds W P p both.0 known × Holds W P q both.1 known
Holds W P (or p q) = λ thing known. Holds W P p thing known ⊎ Holds W P q thing known
Holds W P (many p) = OfEach (Holds W P p)
Holds W P (few most p) = OfEach (Holds W P p)
Holds W P (perhaps p) = OfMaybe (Holds W P p)

-- ---- it stays where more is known

abbrev pub Stays : {Known A : Type 0} → (Known → Known → Type 0) → (A → Known → Type 0) → Type 0
Stays {Known} {A} Later F = (thing : A) (known later : Known) → Later known later → F thing known → F thing later

pub each-stays : {Known A : Type 0} (Later : Known → Known → Type 0) (F : A → Known → Type 0) → Stays Later F → Stays Later (OfEach F)
each-stays Later F stays [] known later more h = tt
each-stays Later F stays (thing ∷ things) known later more h = (stays thing known later more h.0, each-stays Later F stays things known later more h.1)

pub maybe-stays : {Known A : Type 0} (Later : Known → Known → Type 0) (F : A → Known → Type 0) → Stays Later F → Stays Later (OfMaybe F)
maybe-stays Later F stays None known later more h = tt
maybe-stays Later F stays (Some thing) known later more h = stays thing known later more h

-- ---- readings

-- a grammar of things: what is known grows, and F holds of what is read
pub record Gives {Word Known A : Type 0} (Later : Known → Known → Type 0) (G : Grammar Word Known A) (F : A → Known → Type 0) : Type 0 where
  pub later : (from : Point Word Known) (thing : A) (to : Point Word Known) → G from thing to → Later from.known to.known
  pub holds : (from : Point Word Known) (thing : A) (to : Point Word Known) → G from thing to → F thing to.known

module _ {Word Known : Type 0} (Later : Known → Known → Type 0) (now : (known : Known) → Later known known) (then : (a b c : Known) → Later a b → Later b c → Later a c) where
  then-gives : {A B : Type 0} (G : Grammar Word Known A) (H : Grammar Word Known B) (F : A → Known → Type 0) (E : B → Known → Type 0) → Stays Later F → Gives Later G F → Gives Later H E → Gives Later (Then G H) (λ both known. F both.0 known × E both.1 known)
  then-gives G H F E stays g h = record {
    later = λ from both to r. then from.known r.middle.known to.known (g.later from both.0 r.middle r.first) (h.later r.middle both.1 to r.second);
    holds = λ from both to r. (stays both.0 r.middle.known to.known (h.later r.middle both.1 to r.second) (g.holds from both.0 r.middle r.first), h.holds r.middle both.1 to r.second);
  }

  pub each-later : {A : Type 0} (G : Grammar Word Known A) (F : A → Known → Type 0) → Gives Later G F → (from : Point Word Known) (things : List A) (to : Point Word Known) → Each G from things to → Later from.known to.known
  each-later G F g from [] to r = subst (λ (p : Point Word Known). Later from.known p.known) r (now from.known)
  each-later G F g from (thing ∷ things) to r = then from.known r.0.known to.known (g.later from thing r.0 r.1) (each-later G F g r.0 things to r.2)

  pub each-holds : {A : Type 0} (G : Grammar Word Known A) (F : A → Known → Type 0) → Stays Later F → Gives Later G F → (from : Point Word Known) (things : List A) (to : Point Word Known) → Each G from things to → OfEach F things to.known
  each-holds G F stays g from [] to r = tt
  each-holds G F stays g from (thing ∷ things) to r = (stays thing r.0.known to.known (each-later G F g r.0 things to r.2) (g.holds from thing r.0 r.1), each-holds G F stays g r.0 things to r.2)

  maybe-later : {A : Type 0} (G : Grammar Word Known A) (F : A → Known → Type 0) → Gives Later G F → (from : Point Word Known) (thing : Option A) (to : Point Word Known) → Maybe G from thing to → Later from.known to.known
  maybe-later G F g from None to r = subst (λ (p : Point Word Known). Later from.known p.known) r (now from.known)
  maybe-later G F g from (Some thing) to r = g.later from thing to r

  maybe-holds : {A : Type 0} (G : Grammar Word Known A) (F : A → Known → Type 0) → Gives Later G F → (from : Point Word Known) (thing : Option A) (to : Point Word Known) → Maybe G from thing to → OfMaybe F thing to.known
  maybe-holds G F g from None to r = tt
  maybe-holds G F g from (Some thing) to r = g.holds from thing to r

  -- what holds of the second of two things holds of it alone, and of the first
  pick-second : {A B : Type 0} (G : Grammar Word Known (A × B)) (F : A → Known → Type 0) (E : B → Known → Type 0) → Gives Later G (λ both known. F both.0 known × E both.1 known) → Gives Later (Made (λ (both : A × B). both.1) G) E
  pick-second {A} {B} G F E g = record {
    later = λ from thing to r. g.later from r.of to r.reads;
    holds = λ from thing to r. subst (λ (x : B). E x to.known) (sym r.made) (g.holds from r.of to r.reads).1;
  }

  pick-first : {A B : Type 0} (G : Grammar Word Known (A × B)) (F : A → Known → Type 0) (E : B → Known → Type 0) → Gives Later G (λ both known. F both.0 known × E both.1 known) → Gives Later (Made (λ (both : A × B). both.0) G) F
  pick-first {A} {B} G F E g = record {
    later = λ from thing to r. g.later from r.of to r.reads;
    holds = λ from thing to r. subst (λ (x : A). F x to.known) (sym r.made) (g.holds from r.of to r.reads).0;
  }

  pub either-gives : {A : Type 0} (G H : Grammar Word Known A) (F : A → Known → Type 0) → Gives Later G F → Gives Later H F → Gives Later (λ from thing to. G from thing to ⊎ H from thing to) F
  either-gives G H F g h = record {
    later = λ from thing to r. elim r [ inl l ↦ g.later from thing to l | inr s ↦ h.later from thing to s ];
    holds = λ from thing to r. elim r [ inl l ↦ g.holds from thing to l | inr s ↦ h.holds from thing to s ];
  }

  module _ {T I : Type 0} {WordOf : T → Type 0} {Thing : I → Type 0} (value : (t : T) → Word → Option (Known → WordOf t × Known)) (G : (i : I) → Grammar Word Known (Thing i)) (W : (t : T) → WordOf t → Known → Type 0) (P : (i : I) → Thing i → Known → Type 0) (w-stays : (t : T) → Stays Later (W t)) (p-stays : (i : I) → Stays Later (P i)) (words : (t : T) → Gives Later (One (value t)) (W t)) (things : (i : I) → Gives Later (G i) (P i)) where
    pub holds-stays : {b : Bool} {A : Type 0} (p : Production T WordOf I Thing b A) → Stays Later (Holds W P p)
    holds-stays (terminal t) = w-stays t
    holds-stays (given i) = p-stays i
    holds-stays (led t p) = holds-stays p
    holds-stays (ended p t) = holds-stays p
    holds-stays (ended_from p t) = holds-stays p
    holds-stays (made_of make p) = λ thing known later more h. record { of = h.of; is = h.is; holds = holds-stays p h.of known later more h.holds }
    holds-stays (and p q) = λ both known later more h. (holds-stays p both.0 known later more h.0, holds-stays q both.1 known later more h.1)
    holds-stays (and_on p q) = λ both known later more h. (holds-stays p both.0 known later more h.0, holds-stays q both.1 known later more h.1)
    holds-stays (and_from p q) = λ both known later more h. (holds-stays p both.0 known later more h.0, holds-stays q both.1 known later more h.1)
    holds-stays (or p q) = λ thing known later more h. elim h [ inl l ↦ inl (holds-stays p thing known later more l) | inr r ↦ inr (holds-stays q thing known later more r) ]
    holds-stays (many p) = each-stays Later (Holds W P p) (holds-stays p)
    holds-stays (few most p) = each-stays Later (Holds W P p) (holds-stays p)
    holds-stays (perhaps p) = maybe-stays Later (Holds W P p) (holds-stays p)

    pub gives-it : {b : Bool} {A : Type 0} (p : Production T WordOf I Thing b A) → Gives Later (means value G p) (Holds W P p)
    gives-it (terminal t) = words t
    gives-it (given i) = things i
    gives-it (led t p) = pick-second (Then (One (value t)) (means value G p)) (W t) (Holds W P p) (then-gives (One (value t)) (means value G p) (W t) (Holds W P p) (w-stays t) (words t) (gives-it p))
    gives-it (ended p t) = pick-first (Then (means value G p) (One (value t))) (Holds W P p) (W t) (then-gives (means value G p) (One (value t)) (Holds W P p) (W t) (holds-stays p) (gives-it p) (words t))
    gives-it (ended_from p t) = pick-first (Then (means value G p) (One (value t))) (Holds W P p) (W t) (then-gives (means value G p) (One (value t)) (Holds W P p) (W t) (holds-stays p) (gives-it p) (words t))
    gives-it (made_of make p) = record {
      later = λ from thing to r. (gives-it p).later from r.of to r.reads;
      holds = λ from thing to r. record { of = r.of; is = r.made; holds = (gives-it p).holds from r.of to r.reads };
    }
    gives-it (and p q) = then-gives (means value G p) (means value G q) (Holds W P p) (Holds W P q) (holds-stays p) (gives-it p) (gives-it q)
    gives-it (and_on p q) = then-gives (means value G p) (means value G q) (Holds W P p) (Holds W P q) (holds-stays p) (gives-it p) (gives-it q)
    gives-it (and_from p q) = then-gives (means value G p) (means value G q) (Holds W P p) (Holds W P q) (holds-stays p) (gives-it p) (gives-it q)
    gives-it (or p q) = record {
      later = λ from thing to r. elim r [ inl l ↦ (gives-it p).later from thing to l | inr s ↦ (gives-it q).later from thing to s ];
      holds = λ from thing to r. elim r [ inl l ↦ inl ((gives-it p).holds from thing to l) | inr s ↦ inr ((gives-it q).holds from thing to s) ];
    }
    gives-it (many p) = record {
      later = λ from things to r. each-later (means value G p) (Holds W P p) (gives-it p) from things to r;
      holds = λ from things to r. each-holds (means value G p) (Holds W P p) (holds-stays p) (gives-it p) from things to r;
    }
    gives-it (few most p) = record {
      later = λ from things to r. each-later (means value G p) (Holds W P p) (gives-it p) from things to r.1;
      holds = λ from things to r. each-holds (means value G p) (Holds W P p) (holds-stays p) (gives-it p) from things to r.1;
    }
    gives-it (perhaps p) = record {
      later = λ from thing to r. maybe-later (means value G p) (Holds W P p) (gives-it p) from thing to r;
      holds = λ from thing to r. maybe-holds (means value G p) (Holds W P p) (gives-it p) from thing to r;
    }
