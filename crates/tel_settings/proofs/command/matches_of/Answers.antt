use Rattle.std.proofs.Common.{◌≡◌, ◌∙◌, map, sym, ap, subst, []}
use Rattle.std.specs.Prelude.{string_bytes}
use Rattle.clap.specs.Words.{App, fault_of, found_of, is_simple, is_simple_and_free, matches_of}
use Rattle.clap.specs.Kinds.{HasKind}
use Rattle.tel_settings.specs.Given.{app}
use Rattle.tel_settings.proofs.Rules.{app_is_simple, app_is_free}
use Rattle.tel_settings.proofs.Agreed.{all_utf8, read_words, no_words}
use Rattle.tel_settings.proofs.command.matches_of.Goals as goal

pub returns-in-Ok-try_get_matches_from-clause-ok : goal.returns-in-Ok-try_get_matches_from-clause-ok
returns-in-Ok-try_get_matches_from-clause-ok c =
    let words = map string_bytes c.args.words.now in
    let is = c.in-Ok.ensures in
    let none : fault_of app words ≡ [] = ap (λ (a : App). fault_of a words) (sym is) ∙ c.in-Ok-try_get_matches_from.ensures.kinds (ap is_simple_and_free is ∙ app_is_free) in
    let rows = (c.in-Ok-try_get_matches_from.ensures.matches (ap is_simple is ∙ app_is_simple)).0 ∙ ap (λ (a : App). matches_of a words) is in
    read_words words (found_of c.in-Ok-try_get_matches_from.matches) (all_utf8 c.args.words.now) none rows

pub returns : goal.returns
returns c =
    let words = map string_bytes c.args.words.now in
    let is = c.in-Ok.ensures in
    let kinds = subst (λ (a : App). HasKind (fault_of a words) c.in-Err.error) is (c.in-Err.ensures.kinds (ap is_simple_and_free is ∙ app_is_free)) in
    record {
      ok = tt;
      usage = λ _. no_words words c.in-Err.error (all_utf8 c.args.words.now) kinds (λ memory. c.in_default-kind.not-OutOfMemory (c.kind.ensures ∙ memory));
    }
