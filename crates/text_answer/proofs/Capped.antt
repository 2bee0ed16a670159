-- What a count says that stops at the greatest one.
use Rattle.std.proofs.Common.{◌≡◌, ℕ, zero, suc, ◌<◌, ◌&&◌, Bool, false, refl, sym, ap, ◌∙◌, arith}
use Rattle.std.specs.Prelude.{◌==◌, min, nat_lt, nat_le}
use Rattle.std.proofs.lemmas.Bool.{false_from_ne_true, eqb-true}
use borrow.Author.Tests.{lt-ltb}
use Rattle.tel_semantics.specs.declared.ends.How.{How}
use Rattle.tel_semantics.specs.Print.{greatest_count}
use Rattle.tel_settings.specs.declared.fields.Stop.{Stop}
use Rattle.tel_settings.specs.declared.fields.Stop.TheVariants.{Sat, Unsat, Unknown}
use Rattle.tel_settings.specs.declared.fields.Settings.{Settings}
use Rattle.tel_settings.specs.Run.{is_complete, is_met, stops_at}

-- whether it is above 0
pub some_capped : (count : ℕ) → nat_lt 0 (min count greatest_count) ≡ nat_lt 0 count
some_capped zero = refl
some_capped (suc count) = lt-ltb 0 (min (suc count) greatest_count) (omega arith) ∙ sym (lt-ltb 0 (suc count) (omega arith))

none_capped : (count : ℕ) → (min count greatest_count == 0) ≡ (count == 0)
none_capped zero = refl
none_capped (suc count) = none (min (suc count) greatest_count) (omega arith) ∙ sym (none (suc count) (omega arith))
  where
    none : (n : ℕ) → 0 < n → (n == 0) ≡ false
    none n above = false_from_ne_true (n == 0) (λ e. let is = eqb-true n 0 e in omega (arith, above, is))

met_capped : (stop : Stop) (how : How) (count : ℕ) → is_met stop how (min count greatest_count) ≡ is_met stop how count
met_capped Sat how count = some_capped count
met_capped Unsat how count = ap (λ (b : Bool). is_complete how && b) (none_capped count)
met_capped Unknown how count = refl

-- whether a run stops
pub stops_capped : (settings : Settings) (n : ℕ) (how : How) (count : ℕ) → stops_at settings n how (min count greatest_count) ≡ stops_at settings n how count
stops_capped settings n how count = ap (λ (b : Bool). nat_le settings.imin n && b) (met_capped settings.stop how count)
