-- Two fronts of the same words, and what they begin.
use Rattle.std.proofs.Common.{◌≡◌, ℕ, List, [], ◌∷◌, ◌++◌, refl, sym, ap, subst, ◌∙◌, append_assoc, inl, inr}
use Rattle.std.specs.Prelude.{◌⊎◌}
use Rattle.grammar_laws.specs.Points.{at}
use Rattle.grammar_laws.specs.Shapes.{Grammar}
use Rattle.grammar_laws.specs.Refusals.{Begins, AtSomeLevel}

module _ {Word : Type 0} where
  -- the second front goes on behind the first one with the word there
  pub record GoesPast (front rest other : List Word) : Type 0 where
    pub word : Word
    pub behind : List Word
    pub more : List Word
    pub rest_is : rest ≡ word ∷ behind
    pub other_is : other ≡ (front ++ word ∷ []) ++ more

  pub record SameSplit (front rest other behind : List Word) : Type 0 where
    pub fronts_are : front ≡ other
    pub rests_are : rest ≡ behind

  abbrev pub Compared : List Word → List Word → List Word → List Word → Type 0
  Compared front rest other behind = SameSplit front rest other behind ⊎ (GoesPast front rest other ⊎ GoesPast other behind front)

  past-more : (word : Word) (front rest other : List Word) → GoesPast front rest other → GoesPast (word ∷ front) rest (word ∷ other)
  past-more word front rest other g = record { word = g.word; behind = g.behind; more = g.more; rest_is = g.rest_is; other_is = ap (λ (ws : List Word). word ∷ ws) g.other_is }

  compared-more : (word : Word) (front rest other behind : List Word) → Compared front rest other behind → Compared (word ∷ front) rest (word ∷ other) behind
  compared-more word front rest other behind (inl same) = inl (record { fronts_are = ap (λ (ws : List Word). word ∷ ws) same.fronts_are; rests_are = same.rests_are })
  compared-more word front rest other behind (inr (inl g)) = inr (inl (past-more word front rest other g))
  compared-more word front rest other behind (inr (inr g)) = inr (inr (past-more word other behind front g))

  pub compared : (front rest other behind : List Word) → front ++ rest ≡ other ++ behind → Compared front rest other behind
  compared [] rest [] behind e = inl (record { fronts_are = refl; rests_are = e })
  compared [] rest (word ∷ other) behind e = inr (inl (record { word = word; behind = other ++ behind; more = other; rest_is = e; other_is = refl }))
  compared (word ∷ front) rest [] behind e = inr (inr (record { word = word; behind = front ++ rest; more = front; rest_is = sym e; other_is = refl }))
  compared (word ∷ front) rest (word' ∷ other) behind e =
      let a : word ≡ word' = cc in
      let b : front ++ rest ≡ other ++ behind = cc in
      subst (λ (w : Word). Compared (word ∷ front) rest (w ∷ other) behind) a (compared-more word front rest other behind (compared front rest other behind b))

module _ {Word Known : Type 0} where
  -- ---- what fronts begin

  module _ {A : Type 0} (F : Grammar Word Known A) (known : Known) where
    pub begins-front : (front more : List Word) → Begins F known (front ++ more) → Begins F known front
    begins-front front more b =
        record {
          more = more ++ b.more;
          thing = b.thing;
          later = b.later;
          reads = subst (λ (ws : List Word). F (at known ws) b.thing (at b.later [])) (append_assoc front more b.more) b.reads;
        }

    pub past-begins : (front rest other : List Word) → (g : GoesPast front rest other) → Begins F known other → Begins F known (front ++ g.word ∷ [])
    past-begins front rest other g b = begins-front (front ++ g.word ∷ []) g.more (subst (λ (ws : List Word). Begins F known ws) g.other_is b)

    pub all-begins : (words front : List Word) (word : Word) (behind : List Word) → words ≡ front ++ word ∷ behind → Begins F known words → Begins F known (front ++ word ∷ [])
    all-begins words front word behind whole b =
        begins-front (front ++ word ∷ []) behind (subst (λ (ws : List Word). Begins F known ws) (whole ∙ sym (append_assoc front (word ∷ []) behind)) b)

  pub some-level : {A : Type 0} (F : ℕ → Grammar Word Known A) (n : ℕ) (known : Known) (words : List Word) → Begins (F n) known words → Begins (AtSomeLevel F) known words
  some-level F n known words b = record { more = b.more; thing = b.thing; later = b.later; reads = (n, b.reads) }
