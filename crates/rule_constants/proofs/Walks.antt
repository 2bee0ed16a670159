-- The search for the value of a definition: each definition on the way names the next one.
use Rattle.std.proofs.Common.{◌≡◌, ◌≢◌, ℕ, zero, suc, ◌+◌, ◌<◌, ◌≤◌, Bool, true, false, List, [], ◌∷◌, ◌++◌, length, map, take, get_or, set, Option, Some, None, refl, sym, ap, subst, ◌∙◌, ◌⊎◌, inl, inr, ⊎_elim, arith}
use Rattle.std.specs.Prelude.{⊤, is_some, slice_get, slice_index_or}
use Rattle.std.specs.List.{list_all}
use Rattle.std.proofs.lemmas.Bool.{and_from, false≢true, cases_eq}
use Rattle.std.proofs.lemmas.List.{take_more, take_all, length-set, get_or-set_same, get_or-set_other}
use Rattle.std.proofs.lemmas.List.Folds.{list_all-append}
use Rattle.std.proofs.lemmas.List.{map-append}
use Rattle.tel_base.proofs.Members.{In, In-append_left, In-append_right, In-append_cases, In-list_all, list_all-from_In}
use Rattle.tel_term.specs.declared.terms.Value.{Value}
use Rattle.tel_rule.specs.declared.statements.Statement.{Statement}
use Rattle.rule_constants.specs.declared.solving.Step.{Step}
use Rattle.rule_constants.specs.Constants.{Values, all_known, next_values, values_after, statement_value}
use Rattle.rule_constants.specs.Operands.{by_number}
use Rattle.rule_constants.specs.Solving.{definition_needs, HasNone, AreSound, untried, IsSettled, Grows, Solves}
use Rattle.rule_constants.proofs.Rounds.{next-grows, stays, none_inside, none_by_itself}

-- one more is known
pub known_more : (K : Values) (needs : List ℕ) (next : ℕ) → next < length needs → is_some (K (get_or needs next 0)) ≡ true → all_known K (take next needs) ≡ true → all_known K (take (next + 1) needs) ≡ true
known_more K needs next within is known =
    ap (all_known K) (take_more needs next 0 within)
    ∙ list_all-append (λ (n : ℕ). is_some (K n)) (take next needs) (get_or needs next 0 ∷ [])
    ∙ and_from (all_known K (take next needs)) (list_all (λ (n : ℕ). is_some (K n)) (get_or needs next 0 ∷ [])) known (and_from (is_some (K (get_or needs next 0))) true is refl)

-- ---- chains

abbrev pub first_or : ℕ → List ℕ → ℕ
first_or target [] = target
first_or target (a ∷ more) = a

-- each names the next one, and the last one the target
abbrev pub IsChain : (ℕ → List ℕ) → List ℕ → ℕ → Type 0
IsChain needs [] target = ⊤
IsChain needs (a ∷ more) target = In (first_or target more) (needs a) × IsChain needs more target

pub first-more : (xs : List ℕ) (t r : ℕ) → first_or r (xs ++ t ∷ []) ≡ first_or t xs
first-more [] t r = refl
first-more (a ∷ more) t r = refl

pub chain-more : (needs : ℕ → List ℕ) (xs : List ℕ) (t r : ℕ) → IsChain needs xs t → In r (needs t) → IsChain needs (xs ++ t ∷ []) r
chain-more needs [] t r chain i = (i, tt)
chain-more needs (a ∷ more) t r chain i = (subst (λ (x : ℕ). In x (needs a)) (sym (first-more more t r)) chain.0, chain-more needs more t r chain.1 i)

pub chain-less : (needs : ℕ → List ℕ) (xs : List ℕ) (t r : ℕ) → IsChain needs (xs ++ t ∷ []) r → IsChain needs xs t
chain-less needs [] t r chain = tt
chain-less needs (a ∷ more) t r chain = (subst (λ (x : ℕ). In x (needs a)) (first-more more t r) chain.0, chain-less needs more t r chain.1)

first-in : (a t : ℕ) (more : List ℕ) → In (first_or t more) (a ∷ more) ⊎ (first_or t more ≡ t)
first-in a t [] = inr refl
first-in a t (b ∷ more) = inl (inr (inl refl))

pub chain-inside : (needs : ℕ → List ℕ) (xs : List ℕ) (t : ℕ) → IsChain needs xs t → (p : ℕ) → In p xs → (q : ℕ) × In q (needs p) × (In q xs ⊎ (q ≡ t))
chain-inside needs [] t chain p i = absurd i
chain-inside needs (a ∷ more) t chain p i =
    ⊎_elim (λ (e : a ≡ p). (first_or t more, subst (λ (x : ℕ). In (first_or t more) (needs x)) e chain.0, first-in a t more)) (λ m. let w = chain-inside needs more t chain.1 p m in (w.0, w.1, ⊎_elim (λ j. inl (inr j)) (λ e. inr e) w.2)) i

-- ---- what is not tried

pub untried-tried : (tried : List Bool) (n : ℕ) → slice_index_or tried n true ≡ false → untried tried ≡ suc (untried (set tried n true))
untried-tried [] n is = absurd (false≢true (sym is))
untried-tried (true ∷ more) zero is = absurd (false≢true (sym is))
untried-tried (false ∷ more) zero is = refl
untried-tried (true ∷ more) (suc n) is = untried-tried more n is
untried-tried (false ∷ more) (suc n) is = ap suc (untried-tried more n is)

pub untried-within : (tried : List Bool) (n : ℕ) → slice_index_or tried n true ≡ false → n < length tried
untried-within [] n is = absurd (false≢true (sym is))
untried-within (b ∷ more) zero is = omega arith
untried-within (b ∷ more) (suc n) is = let l = untried-within more n is in omega (arith, l)

-- a number past the end, or one that was tried
pub tried-cases : (tried : List Bool) (n : ℕ) → slice_index_or tried n true ≡ true → (length tried ≤ n) ⊎ (slice_index_or tried n false ≡ true)
tried-cases [] n is = inl (omega arith)
tried-cases (b ∷ more) zero is = inr is
tried-cases (b ∷ more) (suc n) is = ⊎_elim (λ l. inl (omega (arith, l))) (λ t. inr t) (tried-cases more n is)

past-none : (statements : List Statement) (n : ℕ) → length statements ≤ n → slice_get statements n ≡ None
past-none [] n l = refl
past-none (s ∷ more) zero l = absurd (omega (arith, l))
past-none (s ∷ more) (suc n) l = past-none more n (omega (arith, l))

pub in-get : (xs : List ℕ) (i d : ℕ) → i < length xs → In (get_or xs i d) xs
in-get [] i d l = absurd (omega arith)
in-get (x ∷ xs) zero d l = inl refl
in-get (x ∷ xs) (suc i) d l = inr (in-get xs i d (omega (arith, l)))

-- ---- values that come to be known

pub known_now : (known : List (Option Value)) (d : ℕ) (v : Value) → d < length known → by_number (set known d (Some v)) d ≡ Some v
known_now known d v l = get_or-set_same known d (Some v) None l

known_else : (known : List (Option Value)) (d n : ℕ) (v : Value) → n ≢ d → by_number (set known d (Some v)) n ≡ by_number known n
known_else known d n v ne = get_or-set_other known d n (Some v) None ne

pub grow-set : (known : List (Option Value)) (d : ℕ) (v : Value) → d < length known → Grows known (set known d (Some v))
grow-set known d v l n is =
    ⊎_elim (λ (e : n ≡ d). ap is_some (ap (by_number (set known d (Some v))) e ∙ known_now known d v l)) (λ ne. ap is_some (known_else known d n v ne) ∙ is) (cases_eq n d)

all-grows : (known new : List (Option Value)) (ns : List ℕ) → Grows known new → all_known (by_number known) ns ≡ true → all_known (by_number new) ns ≡ true
all-grows known new ns grows all =
    list_all-from_In (λ (n : ℕ). is_some (by_number new n)) ns (λ n i. grows n (In-list_all (λ (m : ℕ). is_some (by_number known m)) n ns all i))

-- ---- walks

module _ (statements : List Statement) (links : List (Option ℕ)) where
  abbrev needs : ℕ → List ℕ
  needs number = definition_needs statements links number

  pub record IsStep (known : List (Option Value)) (step : Step) : Type 0 where
    pub needs_are : step.needs ≡ definition_needs statements links step.definition
    pub next_in : step.next ≤ length step.needs
    pub before : all_known (by_number known) (take step.next step.needs) ≡ true
    pub there : step.definition < length statements

  abbrev pub definitions : List Step → List ℕ
  definitions steps = map (λ (s : Step). s.definition) steps

  pub record IsWalk (start : ℕ) (old known : List (Option Value)) (tried : List Bool) (below : List Step) (top : Step) : Type 0 where
    pub known_count : length known ≡ length statements
    pub tried_count : length tried ≡ length statements
    pub sound : AreSound statements links (by_number known)
    pub grows : Grows old known
    pub waiting : (number : ℕ) → slice_index_or tried number false ≡ true → (is_some (by_number known number) ≡ true) ⊎ In number (definitions below ++ top.definition ∷ [])
    pub chain : IsChain (definition_needs statements links) (definitions below) top.definition
    pub first : first_or top.definition (definitions below) ≡ start
    pub top_step : IsStep known top
    pub steps : (step : Step) → In step below → IsStep known step

  past-has_none : (n : ℕ) → length statements ≤ n → HasNone statements links n
  past-has_none n l zero = refl
  past-has_none n l (suc k) = ap (statement_value links (values_after statements links k)) (past-none statements n l)

  -- where the last one of a chain has no value, or is in it, the first one has none
  pub stuck : (ys : List ℕ) (t : ℕ) → IsChain (definition_needs statements links) ys t → HasNone statements links t ⊎ In t ys → HasNone statements links (first_or t ys)
  stuck [] t chain h = ⊎_elim (λ n. n) (λ i. absurd i) h
  stuck (a ∷ more) t chain h = λ k. none_inside statements links (a ∷ more) t h (chain-inside (definition_needs statements links) (a ∷ more) t chain) k a (inl refl)

  -- the next one that is needed was tried already
  pub stuck_again : (start : ℕ) (old known : List (Option Value)) (tried : List Bool) (below : List Step) (top : Step) (need : ℕ) → IsWalk start old known tried below top → In need top.needs → is_some (by_number known need) ≡ false → slice_index_or tried need true ≡ true → HasNone statements links start
  stuck_again start old known tried below top need walk i unknown was =
      let path = definitions below ++ top.definition ∷ [] in
      let named : In need (definition_needs statements links top.definition) = subst (λ (ns : List ℕ). In need ns) walk.top_step.needs_are i in
      let chain = chain-more (definition_needs statements links) (definitions below) top.definition need walk.chain named in
      let why : HasNone statements links need ⊎ In need path = ⊎_elim (λ past. inl (past-has_none need (let c = walk.tried_count in omega (arith, past, c)))) (λ t. ⊎_elim (λ k. absurd (false≢true (sym unknown ∙ k))) (λ m. inr m) (walk.waiting need t)) (tried-cases tried need was) in
      subst (HasNone statements links) (first-more (definitions below) top.definition need ∙ walk.first) (stuck path need chain why)

  all_known-at_end : (known : List (Option Value)) (step : Step) → IsStep known step → length step.needs ≤ step.next → all_known (by_number known) (definition_needs statements links step.definition) ≡ true
  all_known-at_end known step is done =
      ap (all_known (by_number known)) (sym is.needs_are) ∙ ap (all_known (by_number known)) (sym (take_all step.next step.needs done)) ∙ is.before

  pub ready : (start : ℕ) (old known : List (Option Value)) (tried : List Bool) (below : List Step) (top : Step) → IsWalk start old known tried below top → length top.needs ≤ top.next → all_known (by_number known) (definition_needs statements links top.definition) ≡ true
  ready start old known tried below top walk done = all_known-at_end known top walk.top_step done

  -- the top has no value
  pub stuck_here : (start : ℕ) (old known : List (Option Value)) (tried : List Bool) (below : List Step) (top : Step) → IsWalk start old known tried below top → length top.needs ≤ top.next → next_values statements links (by_number known) top.definition ≡ None → HasNone statements links start
  stuck_here start old known tried below top walk done none =
      let all = ready start old known tried below top walk done in
      let here = none_by_itself statements links (by_number known) walk.sound top.definition (λ m i. In-list_all (λ (n : ℕ). is_some (by_number known n)) m (definition_needs statements links top.definition) all i) none in
      subst (HasNone statements links) walk.first (stuck (definitions below) top.definition walk.chain (inl here))

  sound-set : (known : List (Option Value)) (d : ℕ) (v : Value) → d < length known → AreSound statements links (by_number known) → next_values statements links (by_number known) d ≡ Some v → AreSound statements links (by_number (set known d (Some v)))
  sound-set known d v l sound is = (suc sound.0, λ n w e. of n w e (cases_eq n d))
    where
      here : values_after statements links (suc sound.0) d ≡ Some v
      here = next-grows statements links (by_number known) (values_after statements links sound.0) d v (λ m i x y. sound.1 m x y) is

      of : (n : ℕ) (w : Value) → by_number (set known d (Some v)) n ≡ Some w → (n ≡ d) ⊎ (n ≢ d) → values_after statements links (suc sound.0) n ≡ Some w
      of n w e (inl same) =
          let at : by_number (set known d (Some v)) n ≡ Some v = ap (by_number (set known d (Some v))) same ∙ known_now known d v l in
          ap (values_after statements links (suc sound.0)) same ∙ here ∙ sym at ∙ e
      of n w e (inr ne) = stays statements links sound.0 n w (sound.1 n w (sym (known_else known d n v ne) ∙ e))

  step-grows : (known new : List (Option Value)) (step : Step) → Grows known new → IsStep known step → IsStep new step
  step-grows known new step grows is =
      record { needs_are = is.needs_are; next_in = is.next_in; before = all-grows known new (take step.next step.needs) grows is.before; there = is.there }

  first_step : (known : List (Option Value)) (step : Step) (n : ℕ) → step.definition ≡ n → step.needs ≡ definition_needs statements links n → step.next ≡ 0 → n < length statements → IsStep known step
  first_step known step n def_is needs_is next_is there =
      record {
        needs_are = needs_is ∙ ap (definition_needs statements links) (sym def_is);
        next_in = omega (arith, next_is);
        before = ap (λ (k : ℕ). all_known (by_number known) (take k step.needs)) next_is;
        there = omega (arith, def_is, there);
      }

  pub walk-init : (start : ℕ) (known : List (Option Value)) (tried : List Bool) (top : Step) → IsSettled statements links known tried → start < length statements → top.definition ≡ start → top.needs ≡ definition_needs statements links start → top.next ≡ 0 → IsWalk start known known (set tried start true) [] top
  walk-init start known tried top s there def_is needs_is next_is =
      record {
        known_count = s.known_count;
        tried_count = length-set tried start true ∙ s.tried_count;
        sound = s.sound;
        grows = λ n k. k;
        waiting = λ n is. ⊎_elim (λ (e : n ≡ start). inr (inl (def_is ∙ sym e))) (λ ne. inl (s.settled n (sym (get_or-set_other tried start n true false ne) ∙ is))) (cases_eq n start);
        chain = tt;
        first = def_is;
        top_step = first_step known top start def_is needs_is next_is there;
        steps = λ step i. absurd i;
      }

  abbrev pub moved : Step → ℕ → Step
  moved top next = record { definition = top.definition; needs = top.needs; next = next }

  pub walk-moved : (start : ℕ) (old known : List (Option Value)) (tried : List Bool) (below : List Step) (top : Step) (next : ℕ) → IsWalk start old known tried below top → next ≤ length top.needs → (all_known (by_number known) (take top.next top.needs) ≡ true → all_known (by_number known) (take next top.needs) ≡ true) → IsWalk start old known tried below (moved top next)
  walk-moved start old known tried below top next walk within known_is =
      record {
        known_count = walk.known_count;
        tried_count = walk.tried_count;
        sound = walk.sound;
        grows = walk.grows;
        waiting = walk.waiting;
        chain = walk.chain;
        first = walk.first;
        top_step = record { needs_are = walk.top_step.needs_are; next_in = within; before = known_is walk.top_step.before; there = walk.top_step.there };
        steps = walk.steps;
      }

  pub walk-down : (start : ℕ) (old known : List (Option Value)) (tried : List Bool) (below : List Step) (top above : Step) (need : ℕ) → IsWalk start old known tried below top → In need top.needs → slice_index_or tried need true ≡ false → above.definition ≡ need → above.needs ≡ definition_needs statements links need → above.next ≡ 0 → IsWalk start old known (set tried need true) (below ++ top ∷ []) above
  walk-down start old known tried below top above need walk i fresh def_is needs_is next_is =
      let path : definitions (below ++ top ∷ []) ≡ definitions below ++ top.definition ∷ [] = map-append (λ (s : Step). s.definition) below (top ∷ []) in
      let named : In above.definition (definition_needs statements links top.definition) = subst (λ (n : ℕ). In n (definition_needs statements links top.definition)) (sym def_is) (subst (λ (ns : List ℕ). In need ns) walk.top_step.needs_are i) in
      let there : need < length statements = let l = untried-within tried need fresh in omega (arith, l, walk.tried_count) in
      record {
        known_count = walk.known_count;
        tried_count = length-set tried need true ∙ walk.tried_count;
        sound = walk.sound;
        grows = walk.grows;
        waiting = λ n is. ⊎_elim (λ (e : n ≡ need). inr (In-append_right n (definitions (below ++ top ∷ [])) (above.definition ∷ []) (inl (def_is ∙ sym e)))) (λ ne. ⊎_elim (λ k. inl k) (λ m. inr (In-append_left n (definitions (below ++ top ∷ [])) (above.definition ∷ []) (subst (λ (ns : List ℕ). In n ns) (sym path) m))) (walk.waiting n (sym (get_or-set_other tried need n true false ne) ∙ is))) (cases_eq n need);
        chain = subst (λ (ns : List ℕ). IsChain (definition_needs statements links) ns above.definition) (sym path) (chain-more (definition_needs statements links) (definitions below) top.definition above.definition walk.chain named);
        first = ap (first_or above.definition) path ∙ first-more (definitions below) top.definition above.definition ∙ walk.first;
        top_step = first_step known above need def_is needs_is next_is there;
        steps = λ step j. ⊎_elim (λ m. walk.steps step m) (λ m. ⊎_elim (λ (e : top ≡ step). subst (λ (s : Step). IsStep known s) e walk.top_step) (λ none. absurd none) m) (In-append_cases step below (top ∷ []) j);
      }

  pub walk-up : (start : ℕ) (old known : List (Option Value)) (tried : List Bool) (rest : List Step) (top step : Step) (v : Value) → IsWalk start old known tried (rest ++ step ∷ []) top → next_values statements links (by_number known) top.definition ≡ Some v → IsWalk start old (set known top.definition (Some v)) tried rest step
  walk-up start old known tried rest top step v walk is =
      let below = rest ++ step ∷ [] in
      let path : definitions below ≡ definitions rest ++ step.definition ∷ [] = map-append (λ (s : Step). s.definition) rest (step ∷ []) in
      let there : top.definition < length known = let l = walk.top_step.there in omega (arith, l, walk.known_count) in
      let more = grow-set known top.definition v there in
      let chain : IsChain (definition_needs statements links) (definitions rest ++ step.definition ∷ []) top.definition = subst (λ (ns : List ℕ). IsChain (definition_needs statements links) ns top.definition) path walk.chain in
      record {
        known_count = length-set known top.definition (Some v) ∙ walk.known_count;
        tried_count = walk.tried_count;
        sound = sound-set known top.definition v there walk.sound is;
        grows = λ n k. more n (walk.grows n k);
        waiting = λ n t. ⊎_elim (λ k. inl (more n k)) (λ m. ⊎_elim (λ b. inr (subst (λ (ns : List ℕ). In n ns) path b)) (λ h. ⊎_elim (λ (e : top.definition ≡ n). inl (ap is_some (ap (by_number (set known top.definition (Some v))) (sym e) ∙ known_now known top.definition v there))) (λ none. absurd none) h) (In-append_cases n (definitions below) (top.definition ∷ []) m)) (walk.waiting n t);
        chain = chain-less (definition_needs statements links) (definitions rest) step.definition top.definition chain;
        first = sym (first-more (definitions rest) step.definition top.definition) ∙ ap (first_or top.definition) (sym path) ∙ walk.first;
        top_step = step-grows known (set known top.definition (Some v)) step more (walk.steps step (In-append_right step rest (step ∷ []) (inl refl)));
        steps = λ s i. step-grows known (set known top.definition (Some v)) s more (walk.steps s (In-append_left s rest (step ∷ []) i));
      }

  pub walk-done : (start : ℕ) (old known : List (Option Value)) (tried : List Bool) (top : Step) (v : Value) → IsWalk start old known tried [] top → next_values statements links (by_number known) top.definition ≡ Some v → Solves statements links old start true (set known top.definition (Some v)) tried
  walk-done start old known tried top v walk is =
      let there : top.definition < length known = let l = walk.top_step.there in omega (arith, l, walk.known_count) in
      let more = grow-set known top.definition v there in
      let now : is_some (by_number (set known top.definition (Some v)) top.definition) ≡ true = ap is_some (known_now known top.definition v there) in
      let settled : IsSettled statements links (set known top.definition (Some v)) tried = record {
        known_count = length-set known top.definition (Some v) ∙ walk.known_count;
        tried_count = walk.tried_count;
        sound = sound-set known top.definition v there walk.sound is;
        settled = λ n t. ⊎_elim (λ k. more n k) (λ m. ⊎_elim (λ (e : top.definition ≡ n). subst (λ (x : ℕ). is_some (by_number (set known top.definition (Some v)) x) ≡ true) e now) (λ none. absurd none) m) (walk.waiting n t);
      } in
      (settled, λ n k. more n (walk.grows n k), subst (λ (x : ℕ). is_some (by_number (set known top.definition (Some v)) x) ≡ true) walk.first now)
