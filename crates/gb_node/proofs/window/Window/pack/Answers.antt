use Rattle.gb_types.specs.Common.{◌≡◌, ◌<◌, ◌≤◌, ◌∙◌, ℕ, [], rules, arith, ap, sym, length, subst, length-append}
use Rattle.gb_frame.specs.Common.{batch_in, IsBatch, items_text}
use Rattle.gb_frame.proofs.VersionLemmas.{room_within}
use Rattle.gb_table.specs.Common.{batch, items}
use Rattle.gb_node.specs.Frames.{FrameWindow, window_of, AreBatches}
use Rattle.gb_node.proofs.FrameLemmas.{more_batches}
use Rattle.std.specs.declared.{vec.Vec.Vec, alloc.Global.Global}
use Rattle.gb_link.specs.Common.{SendWindow, pushed}
use Rattle.gb_node.proofs.PackLemmas.{some_bytes, batch_written, batch_is, pushed_frame}
use Rattle.gb_node.proofs.window.Window.pack.Goals as goal

pub pack_into-requires-clause-room : goal.pack_into-requires-clause-room
pack_into-requires-clause-room c = let most = room_within c.args.table.now.version in omega (arith, c.requires.most, most)

pub commit-requires-clause-frame : goal.commit-requires-clause-frame
commit-requires-clause-frame c =
    let t = c.args.table.now in
    let some = some_bytes t.version _ (subst (λ n. 0 < n) c.requires.count c.requires.some) in
    omega (arith, some, c.pack_into.ensures.len)

pub invariant_of-self-2 : goal.invariant_of-self-2
invariant_of-self-2 c =
    let t = c.args.table.now in
    let same_version : c.self.inside.version ≡ t.version = ap (λ (w : FrameWindow). w.version) c.self.view_is ∙ c.requires.version in
    let some = some_bytes t.version _ (subst (λ n. 0 < n) c.requires.count c.requires.some) in
    let empty : c.spare.result.now.items ≡ [] = rw c.spare.ensures.value (c.in_ok-space.ensures.empty) in
    let none = ap length empty in
    let room = room_within t.version in
    let before : AreBatches c.self.inside.version c.space.new.self.window.undone = rw c.in_ok-space.ensures.window (c.self.invariant) in
    let batch = subst (λ v. IsBatch v c.pack_into.new.out.items) (sym same_version) (batch_written c.texts_tell_items.ensures t.version c.pack_into.new.out.items _ _ empty c.pack_into.ensures.written c.pack_into.ensures.fit (omega (arith, some, c.pack_into.ensures.len)) (omega (arith, c.pack_into.ensures.len, c.pack_into.ensures.longest.fits, c.requires.most, room, none))) in
    rw c.commit.ensures.window (more_batches c.self.inside.version _ _ before batch)

pub returns-clause-frame : goal.returns-clause-frame
returns-clause-frame c =
    let t = c.args.table.now in
    let same_version : c.self.inside.version ≡ t.version = ap (λ (w : FrameWindow). w.version) c.self.view_is ∙ c.requires.version in
    let empty : c.spare.result.now.items ≡ [] = rw c.spare.ensures.value (c.in_ok-space.ensures.empty) in
    let batch = ap (λ v. batch_in v c.pack_into.new.out.items) same_version ∙ batch_is c.texts_tell_items.ensures t.version c.pack_into.new.out.items _ _ empty c.pack_into.ensures.written c.pack_into.ensures.fit in
    let window = c.commit.ensures.window ∙ ap (λ (w : SendWindow (Vec ℕ Global)). pushed w c.pack_into.new.out) c.in_ok-space.ensures.window in
    let number = c.commit.ensures.number ∙ ap (λ (w : SendWindow (Vec ℕ Global)). w.next) c.in_ok-space.ensures.window in
    rw (← c.self.view_is) (pushed_frame c.self.inside.version c.self.inside.sender.window c.commit.new.self.window c.pack_into.new.out c.commit.result _ c.room.ensures.window window number batch)

pub returns-clause-fit : goal.returns-clause-fit
returns-clause-fit c =
    let t = c.args.table.now in
    let empty : c.spare.result.now.items ≡ [] = rw c.spare.ensures.value (c.in_ok-space.ensures.empty) in
    let none = ap length empty in
    let bytes = length-append c.spare.result.now.items (items_text t.version (items t.groups.rows (batch t.version c.args.to.number c.args.most t.groups))) in
    let written = ap length c.pack_into.ensures.written in
    let few : length (items_text t.version (items t.groups.rows (batch t.version c.args.to.number c.args.most t.groups))) ≤ c.args.most = omega (arith, bytes, written, none, c.pack_into.ensures.len, c.pack_into.ensures.longest.fits) in
    record {
      payloads = c.pack_into.ensures.payloads;
      room = omega (arith, few, c.requires.most);
    }

pub returns-in_err-space-clause-err : goal.returns-in_err-space-clause-err
returns-in_err-space-clause-err c =
    let same = ap (λ (w : SendWindow (Vec ℕ Global)). record { version = c.self.inside.version; window = window_of c.self.inside.version w }) c.in_err-space.ensures.window ∙ c.self.view_is in
    search rules
