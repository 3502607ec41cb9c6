use Rattle.gb_types.specs.Common.{◌<◌, ◌||◌, ◌∙◌, Bool, length, take, ap, sym, arith}
use Rattle.gb_trace.specs.Refused.{is_refused_for}
use Rattle.gb_trace.specs.Trace.{run_of}
use Rattle.gb_trace.proofs.RefusedLemmas.{refused_more, none_refused, rows_begin, rows_go_on}
use Rattle.gb_trace.proofs.refused.refused_for.Goals as goal
use Rattle.gb_trace.proofs.refused.refused_for.Goals.{then-is_lacking, else-is_lacking}

pub loop-i-init : goal.loop-i-init
loop-i-init c = (sym (none_refused c.args.addr c.args.trace.now.packets.items), rows_begin c.args.addr.tenant c.args.trace.now.packets.items)

pub loop-i-preserved : goal.loop-i-preserved
loop-i-preserved c =
    let g = c.args.addr in
    let es = c.args.events.now in
    let rs = c.as_slice-answers.result.now in
    let ps = c.args.trace.now.packets.items in
    let i = c.loop-i.i in
    let e = c.index-events-i.result in
    let r = c.index-answers-i.result in
    let lt : i < length es = omega arith in
    let ls : i < length rs = omega arith in
    let run = run_of (take i es) (take i rs) ps in
    let more = refused_more g ps es rs i e r lt ls c.index-events-i.is c.index-answers-i.is in
    let lacks = c.is_lacking.ensures run c.loop-i.invariant.1 in (
      elim c.if-is_lacking.branch [
        | then-is_lacking w ↦ w.lacked-is ∙ (w.if-is_lacking.true ∙ sym (more ∙ ap (λ (t : Bool). t || is_refused_for g run) (sym lacks ∙ w.if-is_lacking.true)))
        | else-is_lacking w ↦ w.lacked-is ∙ (c.loop-i.invariant.0 ∙ sym (more ∙ ap (λ (t : Bool). t || is_refused_for g run) (sym lacks ∙ w.if-is_lacking.false)))
      ],
      rows_go_on g.tenant ps es rs i e r c.loop-i.rows c.keep_row.new.rows lt ls c.index-events-i.is c.index-answers-i.is c.loop-i.invariant.1 c.keep_row.ensures,
    )
