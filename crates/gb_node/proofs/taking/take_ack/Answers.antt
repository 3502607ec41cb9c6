use Rattle.gb_types.specs.Common.{◌≡◌, ◌∙◌, ap, sym, arith, fold}
use Rattle.gb_types.specs.declared.version.Version.{Version}
use Rattle.gb_frame.specs.Common.{batch_in}
use Rattle.gb_node.specs.Frames.{FrameWindow}
use Rattle.gb_node.specs.NodeStep.{item_done}
use Rattle.gb_node.proofs.AckLemmas.{freed_few, acked_goes, acked_ends, freed_count, freed_table}
use Rattle.gb_node.proofs.taking.take_ack.Goals as goal

pub overflow_add-done : goal.overflow_add-done
overflow_add-done c = let few = freed_few c.args.window.now.window c.args.base c.args.mask c.room.ensures.window in let so = c.loop-texts.invariant.count in omega (arith, few, so)

pub finish_frame-requires : goal.finish_frame-requires
finish_frame-requires c =
    let version : c.version-version.result ≡ c.loop-texts.window.version = c.version-version.ensures ∙ sym c.loop-texts.invariant.version in
    rw (c.deref.ensures.value, version) c.in-Some.ensures.first.1

pub loop-texts-preserved : goal.loop-texts-preserved
loop-texts-preserved c =
    let version : c.version-version.result ≡ c.loop-texts.window.version = c.version-version.ensures ∙ sym c.loop-texts.invariant.version in
    let first = c.in-Some.ensures.first.0 in
    let window = ap (λ (w : FrameWindow). w.window) c.acked.ensures.done in
    let finished = c.finish_frame.ensures ∙ ap (λ (v : Version). fold (item_done c.args.by) c.loop-texts.table (batch_in v c.deref.result.now)) version ∙ ap (λ b. fold (item_done c.args.by) c.loop-texts.table (batch_in c.loop-texts.window.version b)) c.deref.ensures.value in
    rw c.reuse.ensures (record {
      count = freed_count c.loop-texts.window.window c.acked.new.self.window c.args.base c.args.mask c.loop-texts.done _ _ first c.loop-texts.invariant.count;
      version = ap (λ (w : FrameWindow). w.version) c.acked.ensures.done ∙ c.loop-texts.invariant.version;
      window = acked_goes c.loop-texts.window.window c.acked.new.self.window c.args.base c.args.mask window ∙ c.loop-texts.invariant.window;
      table = freed_table c.loop-texts.window.window c.acked.new.self.window c.args.base c.args.mask _ c.args.by c.loop-texts.table c.finish_frame.new.table _ first finished c.loop-texts.invariant.table;
    })

pub returns-clause-window : goal.returns-clause-window
returns-clause-window c =
    let window = ap (λ (w : FrameWindow). w.window) c.acked.ensures.done in
    let version = ap (λ (w : FrameWindow). w.version) c.acked.ensures.done ∙ c.loop-texts.invariant.version in
    let whole = acked_ends c.loop-texts.window.window c.acked.new.self.window c.args.base c.args.mask window c.in_default.ensures.first ∙ c.loop-texts.invariant.window in
    λ i. record { version = version i; window = whole i }
