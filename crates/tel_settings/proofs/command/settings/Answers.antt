use Rattle.std.proofs.Common.{◌∙◌, ◌≤◌, length, map, sym, ap, arith}
use Rattle.std.specs.Prelude.{string_bytes}
use Rattle.clap.specs.Words.{first_value, found_of}
use Rattle.tel_settings.specs.Given.{files_found, settings_given}
use Rattle.tel_settings.proofs.Agreed.{many_files}
use Rattle.tel_settings.proofs.Limits.{line_limits}
use Rattle.tel_settings.proofs.command.settings.Goals as goal

pub returns-in-Err-clause-usage : goal.returns-in-Err-clause-usage
returns-in-Err-clause-usage c = λ is_usage.
    let found = found_of c.in_ok-matches.matches in
    let many : 17 ≤ length (files_found found) = omega (arith, c.in-Err.ensures.usage is_usage) in
    c.in_ok-matches.ensures.ok ∙ many_files (first_value found) (files_found found) many

pub returns-in-Some-clause-ok : goal.returns-in-Some-clause-ok
returns-in-Some-clause-ok c =
    let files = c.in-Ok.ensures.ok in
    c.in_ok-matches.ensures.ok ∙ ap (settings_given (first_value (found_of c.in_ok-matches.matches))) (sym files.0) ∙ sym (c.settings_given.ensures files.1) ∙ c.in-Some.is

pub returns-in-Some-clause-limits : goal.returns-in-Some-clause-limits
returns-in-Some-clause-limits c =
    let files = c.in-Ok.ensures.ok in
    line_limits (map string_bytes c.args.words.now) c.in-Some.settings (c.in_ok-matches.ensures.ok ∙ ap (settings_given (first_value (found_of c.in_ok-matches.matches))) (sym files.0) ∙ sym (c.settings_given.ensures files.1) ∙ c.in-Some.is)
