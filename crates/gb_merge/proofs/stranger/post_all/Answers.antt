use Rattle.gb_types.specs.Common.{◌≡◌, ◌++◌, ℕ, List, sym, ◌∙◌, ap, subst, append-nil}
use Rattle.gb_node.specs.declared.tape.TapeEntry.{TapeEntry}
use Rattle.gb_merge.specs.Faults.{sent_of}
use Rattle.gb_merge.proofs.StrangerLemmas.{sent_on, sent_of-none}
use Rattle.gb_merge.proofs.stranger.post_all.Goals as goal

pub loop-entry-preserved : goal.loop-entry-preserved
loop-entry-preserved c =
    sent_on c.args.sent.now c.loop-entry.sent c.post.new.sent c.in-Some.entry.now c.take.new.self c.args.left c.in_ok-post.ensures
    (subst (λ (left : List TapeEntry). c.loop-entry.sent ++ sent_of left ≡ c.args.sent.now ++ sent_of c.args.left) c.in-Some.ensures c.loop-entry.invariant)

pub returns : goal.returns
returns c =
    let sent = c.loop-entry.sent in
    sym (append-nil sent)
    ∙ (ap (λ (ps : List (List ℕ)). sent ++ ps) (sym sent_of-none)
    ∙ (ap (λ (left : List TapeEntry). sent ++ sent_of left) (sym c.in_default.ensures) ∙ c.loop-entry.invariant))
