-- Columns one after another.
use Rattle.std.proofs.Common.{◌≡◌, ◌∙◌, inl, inr, arith, ℕ, zero, suc, ◌+◌, ◌<◌, drop, get_or, List, [], ◌∷◌, ◌++◌, map, length, refl, sym, ap, subst}
use Rattle.std.specs.Prelude.{Bool}
use Rattle.std.proofs.lemmas.List.{append_assoc}
use Rattle.tel_base.specs.Members.{In}
use Rattle.join_plans.specs.declared.columns.Column.{Column}
use Rattle.join_plans.specs.Join.{place, IsRight, learn, AreRight, learn_all}
use Rattle.join_plans.proofs.Exact.{length-learn}
use Rattle.plan_search.proofs.Dropping.{drop_get_or}

pub learn_more : (known : List Bool) (cs : List Column) (c : Column) → learn_all known (cs ++ c ∷ []) ≡ learn (learn_all known cs) c
learn_more known [] c = refl
learn_more known (d ∷ cs) c = learn_more (learn known d) cs c

pub right_more : (known : List Bool) (cs : List Column) (c : Column) → AreRight known cs → IsRight (learn_all known cs) c → AreRight known (cs ++ c ∷ [])
right_more known [] c right one = (one, tt)
right_more known (d ∷ cs) c right one = (right.0, right_more (learn known d) cs c right.1 one)

places_more : (cs : List Column) (c : Column) → map place (cs ++ c ∷ []) ≡ map place cs ++ place c ∷ []
places_more [] c = refl
places_more (d ∷ cs) c = ap (λ (l : List ℕ). place d ∷ l) (places_more cs c)

pub in_get : {X : Type 0} (xs : List X) (i : ℕ) (d : X) → i < length xs → In (get_or xs i d) xs
in_get [] i d less = absurd (omega (arith, less))
in_get (x ∷ xs) zero d less = inl refl
in_get (x ∷ xs) (suc i) d less = inr (in_get xs i d (omega (arith, less)))

pub drop_one : {X : Type 0} (xs : List X) (i : ℕ) (d : X) → i < length xs → drop i xs ≡ get_or xs i d ∷ drop (i + 1) xs
drop_one {X} xs i d less =
    let next : suc i ≡ i + 1 = omega arith in
    drop_get_or xs i d less ∙ ap (λ (n : ℕ). get_or xs i d ∷ drop n xs) next

-- what a loop over places keeps: `cs` are the columns so far, and `rest` the places that are left
pub record AreSoFar (places : List ℕ) (old known : List Bool) (cs : List Column) (rest : List ℕ) : Type 0 where
  pub same : map place cs ++ rest ≡ places
  pub right : AreRight old cs
  pub learnt : known ≡ learn_all old cs
  pub long : length known ≡ length old

pub one_more : (places : List ℕ) (old known new : List Bool) (cs after : List Column) (rest more : List ℕ) (x : ℕ) (c : Column) → AreSoFar places old known cs rest → rest ≡ x ∷ more → after ≡ cs ++ c ∷ [] → place c ≡ x → IsRight known c → new ≡ learn known c
    → AreSoFar places old new after more
one_more places old known new cs after rest more x c far next is at right learnt = record {
  same =
      ap (λ (l : List Column). map place l ++ more) is
      ∙ ap (λ (l : List ℕ). l ++ more) (places_more cs c)
      ∙ append_assoc (map place cs) (place c ∷ []) more
      ∙ ap (λ (y : ℕ). map place cs ++ y ∷ more) at
      ∙ ap (λ (l : List ℕ). map place cs ++ l) (sym next)
      ∙ far.same;
  right = subst (λ (l : List Column). AreRight old l) (sym is) (right_more old cs c far.right (subst (λ (k : List Bool). IsRight k c) far.learnt right));
  learnt = learnt ∙ ap (λ (k : List Bool). learn k c) far.learnt ∙ sym (learn_more old cs c) ∙ ap (learn_all old) (sym is);
  long = ap length learnt ∙ length-learn known c ∙ far.long;
}
