use Rattle.gb_types.specs.Common.{◌≡◌, ◌∙◌, ap, ap₂, codes, false, true}
use Rattle.std.proofs.lemmas.Result.{IfOk-weaker}
use Rattle.clap.specs.Simple.{app_of_fields}
use Rattle.clap.specs.Words.{Rule, app_of, new_app, rule_of, with_rule}
use Rattle.gb_serve_words.specs.Options.{flag_rule, named_rule}
use Rattle.gb_serve_words.specs.declared.options.TheConstants.{MOST_CONNECTIONS, MOST_SESSIONS}
use Rattle.gb_door.specs.Words.{address_rule, folder_rule}
use Rattle.gb_door.proofs.words.command.Goals as goal

pub returns : goal.returns
returns c =
    let listen_is : rule_of c.help-listen.result ≡ address_rule (codes "listen") =
    rw (c.help-listen.ensures, c.value_name.ensures, c.required.ensures) (ap (λ (r : Rule). record r { required = true; value_names = 1 }) c.text_arg.ensures.rule) in
    let listen_local : c.help-listen.result.global ≡ false = rw (c.help-listen.ensures, c.value_name.ensures, c.required.ensures) c.text_arg.ensures.local in
    let node_is : rule_of c.help-node.result ≡ address_rule (codes "node") =
    rw (c.help-node.ensures, c.value_name-2.ensures, c.required-2.ensures) (ap (λ (r : Rule). record r { required = true; value_names = 1 }) c.text_arg-2.ensures.rule) in
    let node_local : c.help-node.result.global ≡ false = rw (c.help-node.ensures, c.value_name-2.ensures, c.required-2.ensures) c.text_arg-2.ensures.local in
    let page_is : rule_of c.help-page.result ≡ folder_rule (codes "page") =
    rw (c.help-page.ensures, c.value_name-3.ensures) (ap (λ (r : Rule). record r { value_names = 1 }) c.text_arg-3.ensures.rule) in
    let page_local : c.help-page.result.global ≡ false = rw (c.help-page.ensures, c.value_name-3.ensures) c.text_arg-3.ensures.local in
    let connections_is : rule_of c.help-connections.result ≡ named_rule (codes "connections") 1 MOST_CONNECTIONS false =
    rw (c.help-connections.ensures, c.value_name-4.ensures) (ap (λ (r : Rule). record r { value_names = 1 }) c.number_arg.ensures.rule) in
    let connections_local : c.help-connections.result.global ≡ false = rw (c.help-connections.ensures, c.value_name-4.ensures) c.number_arg.ensures.local in
    let sessions_is : rule_of c.help-sessions.result ≡ named_rule (codes "sessions") 0 MOST_SESSIONS false =
    rw (c.help-sessions.ensures, c.value_name-5.ensures) (ap (λ (r : Rule). record r { value_names = 1 }) c.number_arg-2.ensures.rule) in
    let sessions_local : c.help-sessions.result.global ≡ false = rw (c.help-sessions.ensures, c.value_name-5.ensures) c.number_arg-2.ensures.local in
    let remote_is : rule_of c.help-remote.result ≡ flag_rule (codes "remote-clients") = rw c.help-remote.ensures c.flag_arg.ensures.rule in
    let remote_local : c.help-remote.result.global ≡ false = rw c.help-remote.ensures c.flag_arg.ensures.local in
    let bare_is : app_of c.after_help-bare.result ≡ new_app (codes "gb_web") =
    ap app_of_fields c.after_help-bare.ensures ∙ (ap app_of_fields c.about.ensures ∙ c.new.ensures.app) in
    let one = c.in_ok-with_listen.ensures.shape listen_local ∙ ap₂ with_rule bare_is listen_is in
    let two = c.in_ok-with_node.ensures.shape node_local ∙ ap₂ with_rule one node_is in
    let three = c.in_ok-with_page.ensures.shape page_local ∙ ap₂ with_rule two page_is in
    let four = c.in_ok-with_origin.ensures.shape c.origin_arg.ensures.local ∙ ap₂ with_rule three c.origin_arg.ensures.rule in
    let five = c.in_ok-with_connections.ensures.shape connections_local ∙ ap₂ with_rule four connections_is in
    let six = c.in_ok-with_sessions.ensures.shape sessions_local ∙ ap₂ with_rule five sessions_is in
    IfOk-weaker c.arg-7.result _ _ (λ made added. added.shape remote_local ∙ ap₂ with_rule six remote_is) c.arg-7.ensures
