-- The lengths of a run, one after another.
use Rattle.std.proofs.Common.{◌≡◌, ℕ, ◌+◌, ◌-◌, ◌<◌, ◌≤◌, zero, suc, Bool, true, false, ◌||◌, cond, min, map, List, [], ◌∷◌, ◌++◌, length, append-nil, refl, sym, ap, ap₂, ◌∙◌, subst, arith, append_assoc, Option}
use Rattle.std.specs.Prelude.{nat_lt}
use Rattle.std.specs.List.{list_any}
use Rattle.std.proofs.lemmas.List.{map-append}
use Rattle.std.proofs.lemmas.List.Folds.{list_any-append}
use Rattle.tel_base.specs.Bytes.{Appends, AppendsFront}
use Rattle.tel_base.proofs.Told.{appends-nothing, appends-then, front-then, front-in-first, front-of-whole}
use Rattle.tel_semantics.specs.declared.ends.How.{How}
use Rattle.tel_settings.specs.declared.fields.Settings.{Settings}
use Rattle.tel_settings.specs.Run.{Ending, is_unfinished, is_empty, stops_at, is_run, is_run_from, run_status}
use Rattle.tel_engine.specs.declared.ends.LengthEnd.{LengthEnd}
use Rattle.tel_engine.specs.Ends.{End, Tells}
use Rattle.text_answer.specs.Runs.{ending_of, AreEnds, texts_from, Runs}
use Rattle.text_answer.proofs.Capped.{some_capped, stops_capped}

abbrev pub has_trace : Ending → Bool
has_trace ending = nat_lt 0 ending.traces

abbrev pub was_cut : Ending → Bool
was_cut ending = is_unfinished ending.how

-- what an answer tells of an end
pub told_traces : (end : End) (answer : LengthEnd) → Tells end answer → nat_lt 0 answer.traces ≡ has_trace (ending_of end)
told_traces end answer tells = ap (nat_lt 0) tells.traces ∙ some_capped (length end.traces)

pub told_stops : (settings : Settings) (n : ℕ) (end : End) (answer : LengthEnd) → Tells end answer → stops_at settings n answer.how answer.traces ≡ stops_at settings n end.how (length end.traces)
told_stops settings n end answer tells =
    ap₂ (stops_at settings n) tells.how tells.traces ∙ stops_capped settings n end.how (length end.traces)

any-next : (p : Ending → Bool) (xs : List Ending) (x : Ending) (b : Bool) → b ≡ list_any p xs → (b || p x) ≡ list_any p (xs ++ x ∷ [])
any-next p xs x b is = ap (λ c. c || p x) is ∙ last (list_any p xs) (p x) ∙ sym (list_any-append p xs (x ∷ []))
  where
    last : (a c : Bool) → (a || c) ≡ (a || (c || false))
    last a true = refl
    last a false = refl

-- what holds of the status of a run and of what it prints, for another such thing
pub runs-map : (IsOne : ℕ → End → Type 0) (text : ℕ → End → List ℕ) (settings : Settings) (D E : ℕ → List ℕ → Type 0) → ((status : ℕ) (bytes : List ℕ) → D status bytes → E status bytes) → Runs IsOne text settings D → Runs IsOne text settings E
runs-map IsOne text settings D E then runs = record {
  ends = runs.ends;
  is = runs.is;
  delivered = then (run_status (map ending_of runs.ends)) (texts_from text 1 runs.ends) runs.delivered;
}

-- texts that are the same for each end are so for the ends of a run
texts-same : (IsOne : ℕ → End → Type 0) (text other : ℕ → End → List ℕ) → ((n : ℕ) (end : End) → IsOne n end → text n end ≡ other n end) → (n : ℕ) (ends : List End) → AreEnds IsOne n ends → texts_from text n ends ≡ texts_from other n ends
texts-same IsOne text other same n [] are = refl
texts-same IsOne text other same n (end ∷ more) are = ap₂ (λ (bytes rest : List ℕ). bytes ++ rest) (same n end are.0) (texts-same IsOne text other same (n + 1) more are.1)

pub runs-text : (IsOne : ℕ → End → Type 0) (text other : ℕ → End → List ℕ) (settings : Settings) (D : ℕ → List ℕ → Type 0) → ((n : ℕ) (end : End) → IsOne n end → text n end ≡ other n end) → Runs IsOne text settings D → Runs IsOne other settings D
runs-text IsOne text other settings D same runs = record {
  ends = runs.ends;
  is = runs.is;
  delivered = subst (λ (bytes : List ℕ). D (run_status (map ending_of runs.ends)) bytes) (texts-same IsOne text other same 1 runs.ends runs.is.are) runs.delivered;
}

module _ (IsOne : ℕ → End → Type 0) (text : ℕ → End → List ℕ) (settings : Settings) where
  are-append : (k : ℕ) (ends more : List End) → AreEnds IsOne k ends → AreEnds IsOne (k + length ends) more → AreEnds IsOne k (ends ++ more)
  are-append k [] more are then = subst (λ (m : ℕ). AreEnds IsOne m more) (omega arith) then
  are-append k (end ∷ ends) more are then =
      let next : k + length (end ∷ ends) ≡ k + 1 + length ends = omega arith in
      (are.0, are-append (k + 1) ends more are.1 (subst (λ (m : ℕ). AreEnds IsOne m more) next then))

  texts-append : (k : ℕ) (ends more : List End) → texts_from text k (ends ++ more) ≡ texts_from text k ends ++ texts_from text (k + length ends) more
  texts-append k [] more =
      let here : k ≡ k + 0 = omega arith in
      ap (λ (m : ℕ). texts_from text m more) here
  texts-append k (end ∷ ends) more =
      let next : k + 1 + length ends ≡ k + length (end ∷ ends) = omega arith in
      ap (λ (bytes : List ℕ). text k end ++ bytes) (texts-append (k + 1) ends more ∙ ap (λ (m : ℕ). texts_from text (k + 1) ends ++ texts_from text m more) next)
      ∙ sym (append_assoc (text k end) (texts_from text (k + 1) ends) (texts_from text (k + length (end ∷ ends)) more))

  -- the ends of the lengths 1 to n, which are printed, and after which the run goes on
  pub record IsRunning (n : ℕ) (found cut : Bool) (old new : Option (List ℕ)) (before now : ℕ) : Type 0 where
    pub ends : List End
    pub are : AreEnds IsOne 1 ends
    pub many : length ends ≡ n
    pub going : (more : List Ending) → is_run settings (map ending_of ends ++ more) ≡ is_run_from settings (n + 1) (settings.imax - n) more
    pub has : found ≡ list_any has_trace (map ending_of ends)
    pub cuts : cut ≡ list_any was_cut (map ending_of ends)
    pub printed : Appends old new (texts_from text 1 ends)
    pub stands : now ≡ before

  pub running_start : (old : Option (List ℕ)) (before : ℕ) → IsRunning 0 false false old old before before
  running_start old before = record {
    ends = [];
    are = tt;
    many = refl;
    going = λ more. let all : settings.imax ≡ settings.imax - 0 = omega arith in ap (λ (left : ℕ). is_run_from settings 1 left more) all;
    has = refl;
    cuts = refl;
    printed = appends-nothing old;
    stands = refl;
  }

  -- one length more
  run-step : (n : ℕ) (end : Ending) (more : List Ending) → n < settings.imax → is_run_from settings (n + 1) (settings.imax - n) (end ∷ more) ≡ cond (stops_at settings (n + 1) end.how end.traces) (is_empty more) (is_run_from settings (n + 1 + 1) (settings.imax - (n + 1)) more)
  run-step n end more below =
      let left : settings.imax - n ≡ suc (settings.imax - (n + 1)) = omega (arith, below) in
      ap (λ (k : ℕ). is_run_from settings (n + 1) k (end ∷ more)) left

  module _ (n : ℕ) (found cut : Bool) (old mid : Option (List ℕ)) (before between : ℕ) (state : IsRunning n found cut old mid before between) where
    mapped : (more : List End) → map ending_of (state.ends ++ more) ≡ map ending_of state.ends ++ map ending_of more
    mapped more = map-append ending_of state.ends more

    -- further ends behind these
    further_are : (more : List End) → AreEnds IsOne (n + 1) more → AreEnds IsOne 1 (state.ends ++ more)
    further_are more are =
        let place : n + 1 ≡ 1 + length state.ends = omega (arith, state.many) in
        are-append 1 state.ends more state.are (subst (λ (m : ℕ). AreEnds IsOne m more) place are)

    further_run : (more : List End) → is_run_from settings (n + 1) (settings.imax - n) (map ending_of more) ≡ true → is_run settings (map ending_of (state.ends ++ more)) ≡ true
    further_run more run = ap (is_run settings) (mapped more) ∙ state.going (map ending_of more) ∙ run

    further_texts : (more : List End) → texts_from text 1 (state.ends ++ more) ≡ texts_from text 1 state.ends ++ texts_from text (n + 1) more
    further_texts more =
        let place : 1 + length state.ends ≡ n + 1 = omega (arith, state.many) in
        texts-append 1 state.ends more ∙ ap (λ (m : ℕ). texts_from text 1 state.ends ++ texts_from text m more) place

    module _ (end : End) (answer : LengthEnd) (below : n < settings.imax) (is : IsOne (n + 1) end) (tells : Tells end answer) (new : Option (List ℕ)) (now : ℕ) (whole : Appends mid new (text (n + 1) end)) (stands : now ≡ between) where
      one_printed : Appends old new (texts_from text 1 (state.ends ++ end ∷ []))
      one_printed =
          subst (Appends old new) (sym (further_texts (end ∷ []) ∙ ap (λ (bytes : List ℕ). texts_from text 1 state.ends ++ bytes) (append-nil (text (n + 1) end))))
          (appends-then old mid new (texts_from text 1 state.ends) (text (n + 1) end) state.printed whole)

      one_has : (found || nat_lt 0 answer.traces) ≡ list_any has_trace (map ending_of (state.ends ++ end ∷ []))
      one_has =
          ap (λ b. found || b) (told_traces end answer tells) ∙ any-next has_trace (map ending_of state.ends) (ending_of end) found state.has
          ∙ ap (list_any has_trace) (sym (mapped (end ∷ [])))

      one_cuts : (cut || is_unfinished answer.how) ≡ list_any was_cut (map ending_of (state.ends ++ end ∷ []))
      one_cuts =
          ap (λ (how : How). cut || is_unfinished how) tells.how ∙ any-next was_cut (map ending_of state.ends) (ending_of end) cut state.cuts
          ∙ ap (list_any was_cut) (sym (mapped (end ∷ [])))

      -- after which the run goes on
      pub running_more : stops_at settings (n + 1) answer.how answer.traces ≡ false → (some short : Bool) → some ≡ (found || nat_lt 0 answer.traces) → short ≡ (cut || is_unfinished answer.how) → IsRunning (n + 1) some short old new before now
      running_more goes some short some_is short_is = record {
        ends = state.ends ++ end ∷ [];
        are = further_are (end ∷ []) (is, tt);
        many = length_more state.ends n state.many;
        going = λ more.
            ap (λ (list : List Ending). is_run settings (list ++ more)) (mapped (end ∷ []))
            ∙ ap (is_run settings) (append_assoc (map ending_of state.ends) (ending_of end ∷ []) more)
            ∙ state.going (ending_of end ∷ more)
            ∙ run-step n (ending_of end) more below
            ∙ ap (λ b. cond b (is_empty more) (is_run_from settings (n + 1 + 1) (settings.imax - (n + 1)) more)) (sym (told_stops settings (n + 1) end answer tells) ∙ goes);
        has = some_is ∙ one_has;
        cuts = short_is ∙ one_cuts;
        printed = one_printed;
        stands = stands ∙ state.stands;
      }
        where
          length_more : (ends : List End) (k : ℕ) → length ends ≡ k → length (ends ++ end ∷ []) ≡ k + 1
          length_more [] k none = omega (arith, none)
          length_more (first ∷ more) zero none = absurd (omega (arith, none))
          length_more (first ∷ more) (suc k) some =
              let rest : length more ≡ k = omega (arith, some) in
              let next = length_more more k rest in
              omega (arith, next)

      -- after which it stops
      pub running_last : stops_at settings (n + 1) answer.how answer.traces ≡ true → (some short : Bool) → some ≡ (found || nat_lt 0 answer.traces) → short ≡ (cut || is_unfinished answer.how) → (status : ℕ) → status ≡ cond some 10 (cond short 30 20) → Runs IsOne text settings (λ code bytes. (status ≡ code) × Appends old new bytes)
      running_last stops some short some_is short_is status said = record {
        ends = state.ends ++ end ∷ [];
        is = record {
          are = further_are (end ∷ []) (is, tt);
          run = further_run (end ∷ []) (run-step n (ending_of end) [] below ∙ ap (λ b. cond b true (is_run_from settings (n + 1 + 1) (settings.imax - (n + 1)) [])) (sym (told_stops settings (n + 1) end answer tells) ∙ stops));
        };
        delivered = (said ∙ ap₂ (λ (a b : Bool). cond a 10 (cond b 30 20)) (some_is ∙ one_has) (short_is ∙ one_cuts), one_printed);
      }

    -- where no length is left
    pub running_done : settings.imax ≤ n → (status : ℕ) → status ≡ cond found 10 (cond cut 30 20) → Runs IsOne text settings (λ code bytes. (status ≡ code) × Appends old mid bytes)
    running_done above status said =
        let none : settings.imax - n ≡ 0 = omega (arith, above) in
        record {
          ends = state.ends;
          is = record {
            are = state.are;
            run = ap (is_run settings) (sym (append-nil (map ending_of state.ends))) ∙ state.going [] ∙ ap (λ (left : ℕ). is_run_from settings (n + 1) left []) none;
          };
          delivered = (said ∙ ap₂ (λ (a b : Bool). cond a 10 (cond b 30 20)) state.has state.cuts, state.printed);
        }

    -- ---- a run that is cut short

    module _ (some : (length : ℕ) → (end : End) × IsOne length end) where
      -- some ends of the lengths from k on, where so many are left
      abbrev ends_from : ℕ → ℕ → List End
      ends_from k zero = []
      ends_from k (suc left) = (some k).0 ∷ cond (stops_at settings k (some k).0.how (length (some k).0.traces)) [] (ends_from (k + 1) left)

      are_from : (k left : ℕ) → AreEnds IsOne k (ends_from k left)
      are_from k zero = tt
      are_from k (suc left) =
          ((some k).1, elim (stops_at settings k (some k).0.how (length (some k).0.traces)) as (λ b. AreEnds IsOne (k + 1) (cond b [] (ends_from (k + 1) left))) [ true ↦ tt | false ↦ are_from (k + 1) left ])

      run_from : (k left : ℕ) → is_run_from settings k left (map ending_of (ends_from k left)) ≡ true
      run_from k zero = refl
      run_from k (suc left) =
          elim (stops_at settings k (some k).0.how (length (some k).0.traces))
          as (λ b. cond b (is_empty (map ending_of (cond b [] (ends_from (k + 1) left)))) (is_run_from settings (k + 1) left (map ending_of (cond b [] (ends_from (k + 1) left)))) ≡ true)
          [ true ↦ refl | false ↦ run_from (k + 1) left ]

      -- before a length
      pub short_before : Runs IsOne text settings (λ code bytes. AppendsFront old mid bytes)
      short_before = record {
        ends = state.ends ++ ends_from (n + 1) (settings.imax - n);
        is = record {
          are = further_are (ends_from (n + 1) (settings.imax - n)) (are_from (n + 1) (settings.imax - n));
          run = further_run (ends_from (n + 1) (settings.imax - n)) (run_from (n + 1) (settings.imax - n));
        };
        delivered =
            subst (AppendsFront old mid) (sym (further_texts (ends_from (n + 1) (settings.imax - n))))
            (front-in-first old mid (texts_from text 1 state.ends) (texts_from text (n + 1) (ends_from (n + 1) (settings.imax - n))) (front-of-whole old mid (texts_from text 1 state.ends) state.printed));
      }

      -- within one
      module _ (end : End) (below : n < settings.imax) (is : IsOne (n + 1) end) (new : Option (List ℕ)) (front : AppendsFront mid new (text (n + 1) end)) where
        abbrev behind : List End
        behind = cond (stops_at settings (n + 1) end.how (length end.traces)) [] (ends_from (n + 1 + 1) (settings.imax - (n + 1)))

        behind_are : AreEnds IsOne (n + 1 + 1) behind
        behind_are = elim (stops_at settings (n + 1) end.how (length end.traces)) as (λ b. AreEnds IsOne (n + 1 + 1) (cond b [] (ends_from (n + 1 + 1) (settings.imax - (n + 1))))) [ true ↦ tt | false ↦ are_from (n + 1 + 1) (settings.imax - (n + 1)) ]

        behind_run : cond (stops_at settings (n + 1) end.how (length end.traces)) (is_empty (map ending_of behind)) (is_run_from settings (n + 1 + 1) (settings.imax - (n + 1)) (map ending_of behind)) ≡ true
        behind_run =
            elim (stops_at settings (n + 1) end.how (length end.traces))
            as (λ b. cond b (is_empty (map ending_of (cond b [] (ends_from (n + 1 + 1) (settings.imax - (n + 1)))))) (is_run_from settings (n + 1 + 1) (settings.imax - (n + 1)) (map ending_of (cond b [] (ends_from (n + 1 + 1) (settings.imax - (n + 1)))))) ≡ true)
            [ true ↦ refl | false ↦ run_from (n + 1 + 1) (settings.imax - (n + 1)) ]

        pub short_within : Runs IsOne text settings (λ code bytes. AppendsFront old new bytes)
        short_within = record {
          ends = state.ends ++ end ∷ behind;
          is = record {
            are = further_are (end ∷ behind) (is, behind_are);
            run = further_run (end ∷ behind) (run-step n (ending_of end) (map ending_of behind) below ∙ behind_run);
          };
          delivered =
              subst (AppendsFront old new) (sym (further_texts (end ∷ behind)))
              (front-then old mid new (texts_from text 1 state.ends) (text (n + 1) end ++ texts_from text (n + 1 + 1) behind) state.printed
              (front-in-first mid new (text (n + 1) end) (texts_from text (n + 1 + 1) behind) front));
        }
