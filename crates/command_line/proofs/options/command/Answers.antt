use Rattle.std.proofs.Common.{◌∙◌, ap, true}
use Rattle.std.proofs.lemmas.Result.{IfOk-weaker}
use Rattle.clap.specs.Simple.{app_of_fields, on_top}
use Rattle.command_line.specs.Options.{command}
use Rattle.command_line.proofs.Taken.{added}
use Rattle.command_line.proofs.options.command.Goals as goal

pub returns : goal.returns
unfolding command
returns c =
    let app = ap app_of_fields c.no_binary_name.ensures ∙ ap (on_top (λ s. record s { no_binary_name = true })) c.new.ensures.app in
    let app = ap app_of_fields c.disable_help_flag.ensures ∙ ap (on_top (λ s. record s { disable_help_flag = true })) app in
    let app = added c.in_ok-arg.ensures c.new-2.ensures.optional.1 c.new-2.ensures.rule app in
    let app = added c.in_ok-arg-2.ensures c.flag.ensures.local c.flag.ensures.rule app in
    let app = added c.in_ok-arg-3.ensures c.flag-2.ensures.local c.flag-2.ensures.rule app in
    let app = added c.in_ok-arg-4.ensures c.flag-3.ensures.local c.flag-3.ensures.rule app in
    let app = added c.in_ok-arg-5.ensures c.lettered.ensures.local c.lettered.ensures.rule app in
    let app = added c.in_ok-arg-6.ensures c.repeated.ensures.local c.repeated.ensures.rule app in
    let app = added c.in_ok-arg-7.ensures c.lettered-2.ensures.local c.lettered-2.ensures.rule app in
    let app = added c.in_ok-arg-8.ensures c.flag-4.ensures.local c.flag-4.ensures.rule app in
    let app = added c.in_ok-arg-9.ensures c.flag-5.ensures.local c.flag-5.ensures.rule app in
    let app = added c.in_ok-arg-10.ensures c.flag-6.ensures.local c.flag-6.ensures.rule app in
    let app = added c.in_ok-arg-11.ensures c.flag-7.ensures.local c.flag-7.ensures.rule app in
    let app = added c.in_ok-arg-12.ensures c.flag-8.ensures.local c.flag-8.ensures.rule app in
    let app = added c.in_ok-arg-13.ensures c.lettered-3.ensures.local c.lettered-3.ensures.rule app in
    let app = added c.in_ok-arg-14.ensures c.lettered-4.ensures.local c.lettered-4.ensures.rule app in
    let app = added c.in_ok-arg-15.ensures c.option.ensures.local c.option.ensures.rule app in
    let app = added c.in_ok-arg-16.ensures c.option-2.ensures.local c.option-2.ensures.rule app in
    let app = added c.in_ok-arg-17.ensures c.option-3.ensures.local c.option-3.ensures.rule app in
    let app = added c.in_ok-arg-18.ensures c.option-4.ensures.local c.option-4.ensures.rule app in
    let app = added c.in_ok-arg-19.ensures c.option-5.ensures.local c.option-5.ensures.rule app in
    let app = added c.in_ok-arg-20.ensures c.option-6.ensures.local c.option-6.ensures.rule app in
    let app = added c.in_ok-arg-21.ensures c.flag-9.ensures.local c.flag-9.ensures.rule app in
    let app = added c.in_ok-arg-22.ensures c.flag-10.ensures.local c.flag-10.ensures.rule app in
    let app = added c.in_ok-arg-23.ensures c.flag-11.ensures.local c.flag-11.ensures.rule app in
    IfOk-weaker c.arg-24.result _ _ (λ _ adds. added adds c.option-7.ensures.local c.option-7.ensures.rule app) c.arg-24.ensures
