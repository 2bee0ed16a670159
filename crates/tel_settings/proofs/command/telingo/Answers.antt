use Rattle.std.proofs.Common.{◌≡◌, ◌∙◌, ap, ap₂, true, false, Some}
use Rattle.std.proofs.lemmas.Result.{IfOk-weaker}
use Rattle.clap.specs.Words.{Rule, app_of, rule_of, with_rule}
use Rattle.clap.specs.Simple.{app_of_fields, on_top}
use Rattle.clap.specs.declared.builder.action.ArgAction.TheVariants.{Append}
use Rattle.clap.specs.declared.builder.arg.Arg.{Arg}
use Rattle.tel_settings.specs.Given.{bare, files_rule}
use Rattle.tel_settings.proofs.command.telingo.Goals as goal

pub returns : goal.returns
returns c =
    let files_are : rule_of c.action-files.result ≡ files_rule = ap rule_of c.action-files.ensures ∙ ap (λ (r : Rule). record r { action = Some Append }) c.new.ensures.rule in
    let local : c.action-files.result.global ≡ false = ap (λ (a : Arg). a.global) c.action-files.ensures ∙ c.new.ensures.optional.1 in
    let bare_is : app_of c.disable_help_flag.result ≡ bare = ap app_of_fields c.disable_help_flag.ensures ∙ ap (on_top (λ top. record top { disable_help_flag = true })) (ap app_of_fields c.no_binary_name.ensures ∙ ap (on_top (λ top. record top { no_binary_name = true })) c.new-2.ensures.app) in
    IfOk-weaker c.arg-7.result _ _ (λ command h. h.shape local ∙ ap₂ with_rule
    (c.in_ok-arg-6.ensures.shape c.option-6.ensures.local ∙ ap₂ with_rule
    (c.in_ok-arg-5.ensures.shape c.option-5.ensures.local ∙ ap₂ with_rule
    (c.in_ok-arg-4.ensures.shape c.option-4.ensures.local ∙ ap₂ with_rule
    (c.in_ok-arg-3.ensures.shape c.option-3.ensures.local ∙ ap₂ with_rule
    (c.in_ok-arg-2.ensures.shape c.option-2.ensures.local ∙ ap₂ with_rule
    (c.in_ok-arg.ensures.shape c.option.ensures.local ∙ ap₂ with_rule bare_is c.option.ensures.rule)
    c.option-2.ensures.rule) c.option-3.ensures.rule) c.option-4.ensures.rule) c.option-5.ensures.rule) c.option-6.ensures.rule) files_are) c.arg-7.ensures
