use Rattle.gb_types.specs.Common.{◌∙◌, ap, sym, option_to_list}
use Rattle.gb_isolation.specs.Project.{command_for}
use Rattle.gb_trace.proofs.AskedLemmas.{stop_shown, none_shown}
use Rattle.gb_trace.proofs.asked.of_stopped.Goals as goal

pub returns-in_ok-push : goal.returns-in_ok-push
returns-in_ok-push c =
    stop_shown c.args.a c.args.met c.in-Some.step c.args.steps.now.items c.add_stop.new.steps.items c.push.new.self.items (command_for c.args.a c.args.what.now) (sym c.in_ok-step.ensures ∙ ap option_to_list c.in-Some.is) c.in_ok-add_stop.ensures
    c.in_ok-push.ensures.items

pub returns-in_default : goal.returns-in_default
returns-in_default c = none_shown c.args.a c.args.met c.args.steps.now.items (command_for c.args.a c.args.what.now) (sym c.in_ok-step.ensures ∙ ap option_to_list c.in_default.is)
