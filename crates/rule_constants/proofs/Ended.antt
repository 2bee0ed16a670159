-- The value of a constant names no constant, so a program whose constants are replaced has the same constants with the same values.
use Rattle.std.proofs.Common.{◌≡◌, ℕ, zero, suc, Bool, true, false, List, [], ◌∷◌, map, Option, Some, None, refl, sym, ap, subst, ◌∙◌, ◌⊎◌, inl, inr, ⊎_elim}
use Rattle.std.specs.Prelude.{◌&&◌, not, is_some, slice_get, slice_index_or, Ok, Err, if◌then◌else◌}
use Rattle.std.specs.Option.{option_map}
use Rattle.std.proofs.lemmas.Bool.{and_parts, false≢true}
use Rattle.tel_base.proofs.Members.{In-list_all}
use Rattle.tel_term.specs.declared.terms.Term.{Term}
use Rattle.tel_term.specs.declared.terms.Term.TheVariants as terms
use Rattle.tel_term.specs.declared.terms.Value.{Value}
use Rattle.tel_term.specs.declared.terms.Value.TheVariants as values
use Rattle.tel_term.specs.declared.exprs.Expr.{Expr}
use Rattle.tel_term.specs.Arithmetic.{Valued, expr_value}
use Rattle.tel_rule.specs.declared.statements.Kind.{Kind}
use Rattle.tel_rule.specs.declared.statements.Kind.TheVariants as kinds
use Rattle.tel_rule.specs.declared.statements.Statement.{Statement}
use Rattle.rule_constants.specs.Constants.{defines, definition_of, term_definition, links_of, linked, needs_of, has_variable, expr_replaced, Values, value_or, value_at, replacement, all_known, ok_value, defined_value, kind_value, statement_value, values_after, IsFaultyConstant, HasNoValue}
use Rattle.rule_constants.specs.Replaced.{AreValues, kind_replaced, statement_replaced}
use Rattle.rule_constants.proofs.Rounds.{defined-grows, defined_known}
use Rattle.rule_constants.proofs.Kept.{variable-kept, names_none, replaced-same, value-ends}

passes : (test : Bool) (x : Option Value) (v : Value) → (if test then x else None) ≡ Some v → (test ≡ true) × (x ≡ Some v)
passes true x v h = (refl, h)
passes false x v h = absurd cc

ok-of : (x : Valued) (v : Value) → ok_value x ≡ Some v → x ≡ Ok v
ok-of (Ok w) v is = let e : w ≡ v = cc in ap (λ (u : Value). Ok u) e
ok-of (Err fault) v is = absurd cc

given : (o : Option Value) → is_some o ≡ true → (v : Value) × (o ≡ Some v)
given None some = absurd (false≢true some)
given (Some v) some = (v, refl)

-- what a defined value says of its expression
defined-parts : (links : List (Option ℕ)) (K : Values) (expr : Expr) (v : Value) → defined_value links K expr ≡ Some v → (has_variable expr ≡ false) × (all_known K (needs_of links expr) ≡ true) × (expr_value [] (expr_replaced (replacement links K) expr) ≡ Ok v)
defined-parts links K expr v is =
    let p = passes (not (has_variable expr) && all_known K (needs_of links expr)) (ok_value (expr_value [] (expr_replaced (replacement links K) expr))) v is in
    let both = and_parts (not (has_variable expr)) (all_known K (needs_of links expr)) p.0 in
    (no-variable (has_variable expr) both.0, both.1, ok-of (expr_value [] (expr_replaced (replacement links K) expr)) v p.1)
  where
    no-variable : (b : Bool) → not b ≡ true → b ≡ false
    no-variable true e = sym e
    no-variable false e = refl

-- ---- no value of a definition names a constant

module _ (statements : List Statement) (links : List (Option ℕ)) where
  abbrev after : ℕ → Values
  after rounds = values_after statements links rounds

  abbrev AllEnd : Values → Type 0
  AllEnd K = (n : ℕ) (v : Value) → K n ≡ Some v → linked links v ≡ None

  defined-ends : (K : Values) → AllEnd K → (expr : Expr) (v : Value) → defined_value links K expr ≡ Some v → linked links v ≡ None
  defined-ends K ends expr v is =
      let parts = defined-parts links K expr v is in
      value-ends links K expr
      (λ n i. let g = given (K n) (In-list_all (λ (m : ℕ). is_some (K m)) n (needs_of links expr) parts.1 i) in (g.0, g.1, ends n g.0 g.1))
      v parts.2

  statement-ends : (K : Values) → AllEnd K → (s : Option Statement) (v : Value) → statement_value links K s ≡ Some v → linked links v ≡ None
  statement-ends K ends None v is = absurd cc
  statement-ends K ends (Some s) v is = of s.kind is
    where
      of : (kind : Kind) → kind_value links K kind ≡ Some v → linked links v ≡ None
      of (kinds.Const name expr) e = defined-ends K ends expr v e
      of (kinds.Rule head body) e = absurd cc
      of (kinds.Facts fact) e = absurd cc
      of (kinds.Show shown) e = absurd cc

  pub all-end : (rounds : ℕ) → AllEnd (after rounds)
  all-end zero n v is = absurd cc
  all-end (suc rounds) n v is = statement-ends (after rounds) (all-end rounds) (slice_get statements n) v is

-- ---- definitions of names

-- the statement with this number defines this name
abbrev pub IsAt : List ℕ → List Statement → ℕ → Type 0
IsAt name S n = (s : Statement) × (slice_get S n ≡ Some s) × (defines name s.kind ≡ true)

-- a name's definition is a statement that defines it
pub definition-at : (S : List Statement) (name : List ℕ) (n : ℕ) → definition_of S name ≡ Some n → IsAt name S n
definition-at [] name n is = absurd cc
definition-at (x ∷ xs) name n is = of (λ m e. definition-at xs name m e) (defines name x.kind) refl is
  where
    later : ((m : ℕ) → definition_of xs name ≡ Some m → IsAt name xs m) → (o : Option ℕ) → definition_of xs name ≡ o → option_map suc o ≡ Some n → IsAt name (x ∷ xs) n
    later before None e h = absurd cc
    later before (Some m) e h =
        let same : suc m ≡ n = cc in
        let g : IsAt name (x ∷ xs) (suc m) = before m e in
        subst (λ (k : ℕ). IsAt name (x ∷ xs) k) same g

    of : ((m : ℕ) → definition_of xs name ≡ Some m → IsAt name xs m) → (b : Bool) → defines name x.kind ≡ b → (if b then Some 0 else option_map suc (definition_of xs name)) ≡ Some n → IsAt name (x ∷ xs) n
    of before true e h =
        let same : 0 ≡ n = cc in
        let g : IsAt name (x ∷ xs) 0 = (x, refl, e) in
        subst (λ (k : ℕ). IsAt name (x ∷ xs) k) same g
    of before false e h = later before (definition_of xs name) refl h

-- what a term names has a definition
term-defined : (S : List Statement) (t : Term) (n : ℕ) → term_definition S t ≡ Some n → (name : List ℕ) × (definition_of S name ≡ Some n)
term-defined S (terms.Num k) n is = absurd cc
term-defined S (terms.Name name) n is = (name, is)
term-defined S (terms.Str bytes) n is = absurd cc

symbol-defined : (S : List Statement) (Y : List Term) (symbol n : ℕ) → slice_index_or (links_of S Y) symbol None ≡ Some n → (name : List ℕ) × (definition_of S name ≡ Some n)
symbol-defined S [] symbol n is = absurd cc
symbol-defined S (t ∷ Y) zero n is = term-defined S t n is
symbol-defined S (t ∷ Y) (suc symbol) n is = symbol-defined S Y symbol n is

pub linked-defined : (S : List Statement) (Y : List Term) (u : Value) (n : ℕ) → linked (links_of S Y) u ≡ Some n → (name : List ℕ) × (definition_of S name ≡ Some n)
linked-defined S Y (values.Num k) n is = absurd cc
linked-defined S Y (values.Sym symbol) n is = symbol-defined S Y symbol n is

-- ---- replaced statements define the same names

defines-kept : (new : Value → Value) (name : List ℕ) (kind : Kind) → defines name (kind_replaced new kind) ≡ defines name kind
defines-kept new name (kinds.Const own expr) = refl
defines-kept new name (kinds.Rule head body) = refl
defines-kept new name (kinds.Facts fact) = refl
defines-kept new name (kinds.Show shown) = refl

pub definition-kept : (new : Value → Value) (S : List Statement) (name : List ℕ) → definition_of (map (statement_replaced new) S) name ≡ definition_of S name
definition-kept new [] name = refl
definition-kept new (x ∷ xs) name =
    ap (λ (b : Bool). if b then Some 0 else option_map suc (definition_of (map (statement_replaced new) xs) name)) (defines-kept new name x.kind)
    ∙ ap (λ (o : Option ℕ). if defines name x.kind then Some 0 else option_map suc o) (definition-kept new xs name)

term-kept : (new : Value → Value) (S : List Statement) (t : Term) → term_definition (map (statement_replaced new) S) t ≡ term_definition S t
term-kept new S (terms.Num k) = refl
term-kept new S (terms.Name name) = definition-kept new S name
term-kept new S (terms.Str bytes) = refl

pub links-kept : (new : Value → Value) (S : List Statement) (Y : List Term) → links_of (map (statement_replaced new) S) Y ≡ links_of S Y
links-kept new S [] = refl
links-kept new S (t ∷ Y) =
    ap (λ (o : Option ℕ). o ∷ links_of (map (statement_replaced new) S) Y) (term-kept new S t)
    ∙ ap (λ (os : List (Option ℕ)). term_definition S t ∷ os) (links-kept new S Y)

pub replaced-at : {X Y : Type 0} (f : X → Y) (xs : List X) (n : ℕ) (y : Y) → slice_get (map f xs) n ≡ Some y → (x : X) × (slice_get xs n ≡ Some x) × (f x ≡ y)
replaced-at f [] n y is = absurd cc
replaced-at f (x ∷ xs) zero y is = let e : f x ≡ y = cc in (x, refl, e)
replaced-at f (x ∷ xs) (suc n) y is = replaced-at f xs n y is

pub at-replaced : {X Y : Type 0} (f : X → Y) (xs : List X) (n : ℕ) (x : X) → slice_get xs n ≡ Some x → slice_get (map f xs) n ≡ Some (f x)
at-replaced f [] n x is = absurd cc
at-replaced f (y ∷ xs) zero x is = let e : y ≡ x = cc in ap (λ z. Some (f z)) e
at-replaced f (y ∷ xs) (suc n) x is = at-replaced f xs n x is

-- ---- constants without a fault

-- no statement's constant is faulty
abbrev pub NoneIsFaulty : List Statement → List Term → Type 0
NoneIsFaulty S Y = (n : ℕ) (s : Statement) → slice_get S n ≡ Some s → (name : List ℕ) → IsFaultyConstant S Y n s.kind name → ⊥

module _ (S : List Statement) (Y : List Term) (K : Values) (are : AreValues S Y K) (fine : NoneIsFaulty S Y) where
  abbrev L : List (Option ℕ)
  L = links_of S Y

  abbrev new : Value → Value
  new = replacement L K

  has-value : (n : ℕ) (s : Statement) (own : List ℕ) (expr : Expr) → slice_get S n ≡ Some s → s.kind ≡ kinds.Const own expr → (v : Value) × (K n ≡ Some v)
  has-value n s own expr at kind = of (K n) refl
    where
      none : K n ≡ None → HasNoValue S Y n
      none e rounds = tell (values_after S L rounds n) refl
        where
          tell : (o : Option Value) → values_after S L rounds n ≡ o → values_after S L rounds n ≡ None
          tell None h = h
          tell (Some v) h = let g = (are n v).1 (rounds, h) in absurd cc

      of : (o : Option Value) → K n ≡ o → (v : Value) × (K n ≡ Some v)
      of (Some v) e = (v, e)
      of None e = absurd (fine n s at own (subst (λ (k : Kind). IsFaultyConstant S Y n k own) (sym kind) (refl, inr (none e))))

  of-defining : (n : ℕ) (s : Statement) (name : List ℕ) → slice_get S n ≡ Some s → defines name s.kind ≡ true → (v : Value) × (K n ≡ Some v)
  of-defining n s name at is = of s.kind refl is
    where
      of : (kind : Kind) → s.kind ≡ kind → defines name kind ≡ true → (v : Value) × (K n ≡ Some v)
      of (kinds.Const own expr) e d = has-value n s own expr at e
      of (kinds.Rule head body) e d = absurd (false≢true d)
      of (kinds.Facts fact) e d = absurd (false≢true d)
      of (kinds.Show shown) e d = absurd (false≢true d)

  K-ends : (n : ℕ) (v : Value) → K n ≡ Some v → linked L v ≡ None
  K-ends n v is = let h = (are n v).0 is in all-end S L h.0 n v h.1

  -- what stands in place of a value names no constant
  pub new-ends : (u : Value) → linked L (new u) ≡ None
  new-ends u = of (linked L u) refl
    where
      of : (o : Option ℕ) → linked L u ≡ o → linked L (value_or u (value_at K o)) ≡ None
      of None e = e
      of (Some n) e =
          let named = linked-defined S Y u n e in
          let at = definition-at S named.0 n named.1 in
          let g = of-defining n at.0 named.0 at.1 at.2 in
          ap (λ (o : Option Value). linked L (value_or u o)) g.1 ∙ K-ends n g.0 g.1

  abbrev none-yet : Values
  none-yet = values_after (map (statement_replaced new) S) (links_of (map (statement_replaced new) S) Y) zero

  stays-so : (links : List (Option ℕ)) (u : Value) → replacement links none-yet u ≡ u
  stays-so links u = of (linked links u)
    where
      of : (o : Option ℕ) → value_or u (value_at none-yet o) ≡ u
      of None = refl
      of (Some n) = refl

  -- a replaced definition has its value in the first round
  first-round : (links : List (Option ℕ)) (expr : Expr) (v : Value) → links ≡ L → defined_value L K expr ≡ Some v → defined_value links none-yet (expr_replaced new expr) ≡ Some v
  first-round links expr v same is =
      let parts = defined-parts L K expr v is in
      let e = expr_replaced new expr in
      let needs : needs_of links e ≡ [] = ap (λ (l : List (Option ℕ)). needs_of l e) same ∙ names_none L new new-ends expr in
      let known : all_known none-yet (needs_of links e) ≡ true = ap (all_known none-yet) needs in
      defined_known links none-yet e (variable-kept new expr ∙ parts.0) known
      ∙ ap (λ (x : Expr). ok_value (expr_value [] x)) (replaced-same (replacement links none-yet) (stays-so links) e)
      ∙ ap ok_value parts.2

  has-parts : (n : ℕ) (s : Statement) (own : List ℕ) (expr : Expr) → slice_get S n ≡ Some s → s.kind ≡ kinds.Const own expr → (v : Value) × (defined_value L K expr ≡ Some v)
  has-parts n s own expr at kind =
      let g = has-value n s own expr at kind in
      let h = (are n g.0).0 g.1 in
      (g.0, of h.0 h.1)
    where
      of : (rounds : ℕ) {v : Value} → values_after S L rounds n ≡ Some v → defined_value L K expr ≡ Some v
      of zero is = absurd cc
      of (suc rounds) {v} is =
          let there : defined_value L (values_after S L rounds) expr ≡ Some v =
          subst (λ (k : Kind). kind_value L (values_after S L rounds) k ≡ Some v) kind
          (subst (λ (o : Option Statement). statement_value L (values_after S L rounds) o ≡ Some v) at is) in
          defined-grows L (values_after S L rounds) K expr v (λ m i w e. (are m w).1 (rounds, e)) there

  -- so no constant of the replaced program is faulty
  pub none-is-faulty : NoneIsFaulty (map (statement_replaced new) S) Y
  none-is-faulty n t at name faulty =
      let w = replaced-at (statement_replaced new) S n t at in
      of w.0 w.1 w.0.kind refl (subst (λ (x : Statement). IsFaultyConstant (map (statement_replaced new) S) Y n x.kind name) (sym w.2) faulty)
    where
      of : (s : Statement) → slice_get S n ≡ Some s → (kind : Kind) → s.kind ≡ kind → IsFaultyConstant (map (statement_replaced new) S) Y n (kind_replaced new s.kind) name → ⊥
      of s here (kinds.Const own expr) e bad =
          let b = subst (λ (k : Kind). IsFaultyConstant (map (statement_replaced new) S) Y n (kind_replaced new k) name) e bad in
          ⊎_elim
          (λ (other : _). fine n s here own (subst (λ (k : Kind). IsFaultyConstant S Y n k own) (sym e) (refl, inl (λ d. other (definition-kept new S own ∙ d)))))
          (λ (none : _).
          let g = has-parts n s own expr here e in
          let links = links_of (map (statement_replaced new) S) Y in
          let first : defined_value links none-yet (expr_replaced new expr) ≡ Some g.0 = first-round links expr g.0 (links-kept new S Y) g.1 in
          let kind : kind_replaced new s.kind ≡ kinds.Const own (expr_replaced new expr) = ap (kind_replaced new) e in
          let value : kind_value links none-yet (kind_replaced new s.kind) ≡ Some g.0 = ap (kind_value links none-yet) kind ∙ first in
          let round : values_after (map (statement_replaced new) S) links (suc zero) n ≡ Some g.0 = ap (statement_value links none-yet) (at-replaced (statement_replaced new) S n s here) ∙ value in
          let no : values_after (map (statement_replaced new) S) links (suc zero) n ≡ None = none (suc zero) in
          absurd cc)
          b.1
      of s here (kinds.Rule head body) e bad = subst (λ (k : Kind). IsFaultyConstant (map (statement_replaced new) S) Y n (kind_replaced new k) name) e bad
      of s here (kinds.Facts fact) e bad = subst (λ (k : Kind). IsFaultyConstant (map (statement_replaced new) S) Y n (kind_replaced new k) name) e bad
      of s here (kinds.Show shown) e bad = subst (λ (k : Kind). IsFaultyConstant (map (statement_replaced new) S) Y n (kind_replaced new k) name) e bad
