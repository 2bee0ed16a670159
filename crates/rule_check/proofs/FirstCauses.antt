-- From what tables decide of each statement, and from the first faulty constant, to the first cause.
use Rattle.std.proofs.Common.{◌≡◌, ◌≢◌, ℕ, ◌+◌, ◌<◌, ◌≤◌, Bool, true, false, List, length, Some, None, refl, sym, ap, subst, ◌∙◌, ◌⊎◌, inl, inr, ⊎_elim, arith}
use Rattle.std.specs.Prelude.{slice_get}
use Rattle.std.proofs.lemmas.Bool.{false≢true, cases_order}
use Rattle.tel_term.specs.declared.terms.Term.{Term}
use Rattle.tel_rule.specs.declared.statements.Signature.{Signature}
use Rattle.tel_rule.specs.declared.statements.Kind.{Kind}
use Rattle.tel_rule.specs.declared.statements.Kind.TheVariants as kinds
use Rattle.tel_rule.specs.declared.statements.Statement.{Statement}
use Rattle.tel_rule.specs.declared.statements.Program.{Program}
use Rattle.tel_semantics.specs.Tables.{is_table}
use Rattle.rule_binding.specs.Binding.{IsFirstUnbound}
use Rattle.rule_binding.proofs.Bodies.{one_unbound}
use Rattle.rule_constants.specs.Constants.{IsSoundConstant, IsFaultyConstant, AreSoundConstants, IsFirstFaulty}
pub use Rattle.rule_constants.proofs.Definitions.{get-within as get-in, get-at}
use Rattle.rule_check.specs.declared.faults.CheckFault.{CheckFault}
use Rattle.rule_check.specs.declared.faults.CheckFault.TheVariants as causes
use Rattle.rule_check.specs.Causes.{IsUnbound, IsCause, has_bare_arrow, rank, HasNoCause, HaveNoCause, IsSound, IsFirstCause}
use Rattle.rule_check.specs.Checking.{IsClear, IsUnclear, AreClear, IsFirstUnclear, DefinesName, defines_a_name, IsConstOf}

none-bound : (tables : Signature → Bool) (s : Statement) (name : List ℕ) → IsFirstUnbound tables s None → IsUnbound tables s name → ⊥
none-bound tables s name none some = let e : None ≡ Some some.0 = one_unbound tables s None (Some some.0) none some.1 in absurd cc

-- a sound constant isn't faulty
pub sound-not_faulty : (S : List Statement) (Y : List Term) (n : ℕ) (kind : Kind) (name : List ℕ) → IsSoundConstant S Y n kind → IsFaultyConstant S Y n kind name → ⊥
sound-not_faulty S Y n (kinds.Const own expr) name sound faulty =
    ⊎_elim (λ (other : _). other sound.0) (λ none. let h = sound.1.1 in let k = none h.0 in let v = h.1 in absurd cc) faulty.1
sound-not_faulty S Y n (kinds.Rule head body) name sound faulty = faulty
sound-not_faulty S Y n (kinds.Facts fact) name sound faulty = faulty
sound-not_faulty S Y n (kinds.Show shown) name sound faulty = faulty

-- the cause that a faulty constant has
faulty-named : (S : List Statement) (Y : List Term) (n : ℕ) (kind : Kind) (name other : List ℕ) → IsFaultyConstant S Y n kind other → DefinesName kind name → IsFaultyConstant S Y n kind name
faulty-named S Y n (kinds.Const own expr) name other faulty named = (named, faulty.1)
faulty-named S Y n (kinds.Rule head body) name other faulty named = faulty
faulty-named S Y n (kinds.Facts fact) name other faulty named = faulty
faulty-named S Y n (kinds.Show shown) name other faulty named = faulty

pub faulty-defines : (S : List Statement) (Y : List Term) (n : ℕ) (kind : Kind) (other : List ℕ) → IsFaultyConstant S Y n kind other → defines_a_name kind ≡ true
faulty-defines S Y n (kinds.Const own expr) other faulty = refl
faulty-defines S Y n (kinds.Rule head body) other faulty = absurd faulty
faulty-defines S Y n (kinds.Facts fact) other faulty = absurd faulty
faulty-defines S Y n (kinds.Show shown) other faulty = absurd faulty

one_more : (a b : ℕ) → a < b + 1 → (a ≡ b) ⊎ (a < b)
one_more a b l = ⊎_elim (λ (e : a ≡ b). inl e) (λ m. ⊎_elim (λ (k : a < b). inr k) (λ (k : b < a). absurd (omega (arith, k, l))) m) (cases_order a b)

pub clear_more : (tables : Signature → Bool) (S : List Statement) (count : ℕ) (s : Statement) → AreClear tables S count → slice_get S count ≡ Some s → IsClear tables s → AreClear tables S (count + 1)
clear_more tables S count s clear at here n t l there =
    ⊎_elim (λ (e : n ≡ count). let both : Some s ≡ Some t = sym at ∙ ap (slice_get S) (sym e) ∙ there in let same : s ≡ t = cc in subst (λ (x : Statement). IsClear tables x) same here) (λ (b : n < count). clear n t b there) (one_more n count l)

pub faulty-within : (S : List Statement) (Y : List Term) (n : ℕ) → IsFirstFaulty S Y n → n < length S
faulty-within S Y n faulty = get-in S n faulty.0.0 faulty.0.1

pub faulty_at : (S : List Statement) (Y : List Term) (n : ℕ) (s : Statement) → IsFirstFaulty S Y n → slice_get S n ≡ Some s → (name : List ℕ) × IsFaultyConstant S Y n s.kind name
faulty_at S Y n s faulty at =
    let both : Some faulty.0.0 ≡ Some s = sym faulty.0.1 ∙ at in
    let same : faulty.0.0 ≡ s = cc in
    subst (λ (x : Statement). (name : List ℕ) × IsFaultyConstant S Y n x.kind name) same faulty.0.2

module _ (program : Program) where
  abbrev T : Signature → Bool
  T = is_table program.statements

  no_cause : (n : ℕ) (s : Statement) → IsClear T s → IsSoundConstant program.statements program.symbols n s.kind → HasNoCause program n s
  no_cause n s clear sound (causes.Unbound place name) is = none-bound T s name clear.0 is.1
  no_cause n s clear sound (causes.Arrow place) is = false≢true (sym clear.1 ∙ is.1)
  no_cause n s clear sound (causes.Prime place) is = false≢true (sym clear.2 ∙ is.1)
  no_cause n s clear sound (causes.Const place name) is = sound-not_faulty program.statements program.symbols n s.kind name sound is.1
  no_cause n s clear sound causes.Memory is = is

  have_no_cause : (count more : ℕ) → count ≤ more → AreClear T program.statements count → AreSoundConstants program.statements program.symbols more → HaveNoCause program count
  have_no_cause count more within clear sound n s below at = no_cause n s (clear n s below at) (sound n s (omega (arith, within, below)) at)

  pub is_sound : AreClear T program.statements (length program.statements) → AreSoundConstants program.statements program.symbols (length program.statements) → IsSound program
  is_sound clear sound = have_no_cause (length program.statements) (length program.statements) (omega arith) clear sound

  unclear-cause : (n : ℕ) (s : Statement) (cause : CheckFault) → IsUnclear T s cause → IsCause program n s cause
  unclear-cause n s (causes.Unbound place name) is = is
  unclear-cause n s (causes.Arrow place) is = (is.0, is.1)
  unclear-cause n s (causes.Prime place) is = (is.0, is.1)
  unclear-cause n s (causes.Const place name) is = absurd is
  unclear-cause n s causes.Memory is = absurd is

  -- none of the first causes of a clear statement, and what comes before an arrow or a prime
  no_unbound : (n : ℕ) (s : Statement) (other : CheckFault) → rank other < 1 → IsFirstUnbound T s None → IsCause program n s other → ⊥
  no_unbound n s (causes.Unbound place name) l none is = none-bound T s name none is.1
  no_unbound n s (causes.Arrow place) l none is = absurd (omega (arith, l))
  no_unbound n s (causes.Prime place) l none is = absurd (omega (arith, l))
  no_unbound n s (causes.Const place name) l none is = absurd (omega (arith, l))
  no_unbound n s causes.Memory l none is = is

  no_arrow : (n : ℕ) (s : Statement) (other : CheckFault) → rank other < 2 → IsFirstUnbound T s None → has_bare_arrow s.kind ≡ false → IsCause program n s other → ⊥
  no_arrow n s (causes.Unbound place name) l none arrow is = none-bound T s name none is.1
  no_arrow n s (causes.Arrow place) l none arrow is = false≢true (sym arrow ∙ is.1)
  no_arrow n s (causes.Prime place) l none arrow is = absurd (omega (arith, l))
  no_arrow n s (causes.Const place name) l none arrow is = absurd (omega (arith, l))
  no_arrow n s causes.Memory l none arrow is = is

  no_prime : (n : ℕ) (s : Statement) (other : CheckFault) → rank other < 3 → IsClear T s → IsCause program n s other → ⊥
  no_prime n s (causes.Unbound place name) l clear is = none-bound T s name clear.0 is.1
  no_prime n s (causes.Arrow place) l clear is = false≢true (sym clear.1 ∙ is.1)
  no_prime n s (causes.Prime place) l clear is = false≢true (sym clear.2 ∙ is.1)
  no_prime n s (causes.Const place name) l clear is = absurd (omega (arith, l))
  no_prime n s causes.Memory l clear is = is

  unclear-first : (n : ℕ) (s : Statement) (cause : CheckFault) → IsUnclear T s cause → (other : CheckFault) → rank other < rank cause → IsCause program n s other → ⊥
  unclear-first n s (causes.Unbound place name) is other l o = absurd (omega (arith, l))
  unclear-first n s (causes.Arrow place) is other l o = no_unbound n s other l is.2 o
  unclear-first n s (causes.Prime place) is other l o = no_arrow n s other l is.3 is.2 o
  unclear-first n s (causes.Const place name) is other l o = absurd is
  unclear-first n s causes.Memory is other l o = absurd is

  pub first_unclear : (count more : ℕ) (cause : CheckFault) → count ≤ more → AreSoundConstants program.statements program.symbols more → IsFirstUnclear T program.statements count cause → IsFirstCause program cause
  first_unclear count more cause within sound first =
      record {
        number = first.number;
        statement = first.statement;
        at = first.at;
        is = unclear-cause first.number first.statement cause first.is;
        first = unclear-first first.number first.statement cause first.is;
        before = have_no_cause first.number more (let l = first.below in omega (arith, within, l)) first.before sound;
      }

  -- the first faulty constant's statement, where those before it are clear
  pub unclear_at : (n : ℕ) (s : Statement) (cause : CheckFault) → slice_get program.statements n ≡ Some s → AreClear T program.statements n → AreSoundConstants program.statements program.symbols n → IsUnclear T s cause → IsFirstCause program cause
  unclear_at n s cause at clear sound is =
      record {
        number = n;
        statement = s;
        at = at;
        is = unclear-cause n s cause is;
        first = unclear-first n s cause is;
        before = have_no_cause n n (omega arith) clear sound;
      }

  pub const_at : (n : ℕ) (s : Statement) (cause : CheckFault) → slice_get program.statements n ≡ Some s → AreClear T program.statements n → AreSoundConstants program.statements program.symbols n → IsClear T s → (other : List ℕ) → IsFaultyConstant program.statements program.symbols n s.kind other → IsConstOf s cause → cause ≢ causes.Memory → IsFirstCause program cause
  const_at n s (causes.Const place name) at clear sound here other faulty is some =
      record {
        number = n;
        statement = s;
        at = at;
        is = (is.0, faulty-named program.statements program.symbols n s.kind name other faulty is.1);
        first = λ o l i. no_prime n s o l here i;
        before = have_no_cause n n (omega arith) clear sound;
      }
  const_at n s (causes.Unbound place name) at clear sound here other faulty is some = absurd is
  const_at n s (causes.Arrow place) at clear sound here other faulty is some = absurd is
  const_at n s (causes.Prime place) at clear sound here other faulty is some = absurd is
  const_at n s causes.Memory at clear sound here other faulty is some = absurd (some refl)

pub one_table : (T U : Signature → Bool) → ((p : Signature) → T p ≡ U p) → T ≡ U
one_table T U same = λ i p. same p i
