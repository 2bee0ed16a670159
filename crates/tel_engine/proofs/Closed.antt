-- A length with its header and its closing line.
use Rattle.std.proofs.Common.{◌≡◌, ℕ, min, List, ◌++◌, length, Option, Ok, Err, refl, ap, subst, ◌∙◌, inl, arith}
use Rattle.std.specs.Prelude.{codes, decimal}
use Rattle.tel_base.specs.Bytes.{Appends, AppendsFront}
use Rattle.tel_base.specs.Counts.{Rose}
use Rattle.tel_base.proofs.Told.{appends-then, front-then, front-in-first, front-of-nothing}
use Rattle.tel_rule.specs.Ground.{Ground}
use Rattle.tel_semantics.specs.Equilibrium.{list_of}
use Rattle.tel_semantics.specs.Print.{header_line, how_text, closing_line, greatest_count}
use Rattle.tel_engine.specs.declared.ends.LengthEnd.{LengthEnd}
use Rattle.tel_engine.specs.declared.ends.EngineFault.{EngineFault}
use Rattle.tel_engine.specs.declared.ends.EngineFault.TheVariants.{Write, Memory}
use Rattle.tel_engine.specs.Ends.{End, whole_end, Tells}
use Rattle.tel_engine.specs.Lists.{PrintsFront, Prints, lines_of, text_of}

module _ (program : Ground) (n models : ℕ) (conflicts : Option ℕ) where
  abbrev header : List ℕ
  header = header_line n

  abbrev closing : End → List ℕ
  closing end = closing_line end.how (length end.traces)

  -- a closing line tells the count up to the greatest one
  closing_told : (end : End) (answer : LengthEnd) → Tells end answer → closing_line answer.how answer.traces ≡ closing end
  closing_told end answer tells =
      let least : min answer.traces greatest_count ≡ min (length end.traces) greatest_count = told (length end.traces) answer.traces greatest_count tells.traces in
      ap (λ how. closing_line how answer.traces) tells.how ∙ closing_same end answer.traces least
    where
      told : (count traces most : ℕ) → traces ≡ min count most → min traces most ≡ min count most
      told count traces most is = omega (arith, is)

      closing_same : (end : End) (traces : ℕ) → min traces greatest_count ≡ min (length end.traces) greatest_count → closing_line end.how traces ≡ closing end
      closing_same end traces same = ap (λ (k : ℕ). codes "end " ++ how_text end.how ++ codes " " ++ decimal k ++ codes "\n") same

  -- the header is cut short
  pub closed_header : (old new : Option (List ℕ)) (before now : ℕ) → AppendsFront old new header → Rose before now → Prints (text_of program n) program n models conflicts (Err Write) old new before now
  closed_header old new before now short rose =
      let end = whole_end (list_of program n) models in (
        record {
          end = end;
          is_end = inl refl;
          printed = front-in-first old new (header ++ lines_of program end) (closing end) (front-in-first old new header (lines_of program end) short);
        },
        rose,
      )

  front_closed : (old mid new : Option (List ℕ)) → Appends old mid header → PrintsFront (lines_of program) program n models conflicts mid new → PrintsFront (text_of program n) program n models conflicts old new
  front_closed old mid new first short = record {
    end = short.end;
    is_end = short.is_end;
    printed = front-in-first old new (header ++ lines_of program short.end) (closing short.end) (front-then old mid new header (lines_of program short.end) first short.printed);
  }

  -- the traces are cut short
  pub closed_traces : (fault : EngineFault) (old mid new : Option (List ℕ)) (before between now : ℕ) → Appends old mid header → between ≡ before → Prints (lines_of program) program n models conflicts (Err fault) mid new between now → Prints (text_of program n) program n models conflicts (Err fault) old new before now
  closed_traces Write old mid new before between now first stands short = (front_closed old mid new first short.0, subst (λ (k : ℕ). Rose k now) stands short.1)
  closed_traces Memory old mid new before between now first stands short = (front_closed old mid new first short.0, short.1 ∙ stands)

  -- the closing line is cut short
  pub closed_line : (answer : LengthEnd) (old mid late new : Option (List ℕ)) (before between then now : ℕ) → Appends old mid header → between ≡ before → Prints (lines_of program) program n models conflicts (Ok answer) mid late between then → AppendsFront late new (closing_line answer.how answer.traces) → Rose then now → Prints (text_of program n) program n models conflicts (Err Write) old new before now
  closed_line answer old mid late new before between then now first stands whole short rose =
      let end = whole.0.end in (
        record {
          end = end;
          is_end = whole.0.is_end;
          printed = front-then old late new (header ++ lines_of program end) (closing end) (appends-then old mid late header (lines_of program end) first whole.0.printed) (subst (AppendsFront late new) (closing_told end answer whole.0.tells) short);
        },
        subst (λ (k : ℕ). Rose k now) (whole.1 ∙ stands) rose,
      )

  -- all is printed
  pub closed : (answer : LengthEnd) (old mid late new : Option (List ℕ)) (before between then now : ℕ) → Appends old mid header → between ≡ before → Prints (lines_of program) program n models conflicts (Ok answer) mid late between then → Appends late new (closing_line answer.how answer.traces) → now ≡ then → Prints (text_of program n) program n models conflicts (Ok answer) old new before now
  closed answer old mid late new before between then now first stands whole last same =
      let end = whole.0.end in (
        record {
          end = end;
          is_end = whole.0.is_end;
          tells = whole.0.tells;
          printed = appends-then old late new (header ++ lines_of program end) (closing end) (appends-then old mid late header (lines_of program end) first whole.0.printed) (subst (Appends late new) (closing_told end answer whole.0.tells) last);
        },
        same ∙ (whole.1 ∙ stands),
      )

  -- nothing is printed, where there was no memory before
  pub closed_none : (old : Option (List ℕ)) (before : ℕ) → Prints (text_of program n) program n models conflicts (Err Memory) old old before before
  closed_none old before =
      let end = whole_end (list_of program n) models in (
        record { end = end; is_end = inl refl; printed = front-of-nothing old old (text_of program n end) refl },
        refl,
      )
