use Rattle.gb_types.specs.Common.{◌≡◌, ℕ, List, ◌++◌, ap, ◌∙◌, codes, decimal, append_assoc, limits_of}
use Rattle.hex.specs.Hex.{encode_lower}
use Rattle.gb_record_text.specs.RecordText.{after_space, part_line, sync_word, with_cluster}
use Rattle.gb_record_text.proofs.part_head.put_part_head.Goals as goal

behind : (old k a b c d v r p e o y t : List ℕ) → (old ++ k) ++ a ++ b ++ c ++ d ++ v ++ r ++ p ++ e ++ o ++ y ++ t ≡ old ++ (k ++ a ++ b ++ c ++ d ++ v ++ r ++ p ++ e ++ o ++ y ++ t)
behind old k a b c d v r p e o y t = simp append_assoc

pub returns : goal.returns
returns c =
    let h = c.args.head.now in
    let g = h.cluster in
    let old = c.args.out.now.items in
    let origin = λ (xs : List ℕ). xs ++ after_space (encode_lower h.boot) ++ after_space (sync_word h.syncs) ++ after_space (encode_lower h.tag) in
    let numbers = λ (xs : List ℕ). xs ++ after_space (decimal h.part) ++ after_space (decimal h.before) in
    c.in_ok-put_origin.ensures
    ∙ (ap origin (c.in_ok-put_numbers.ensures ∙ ap numbers (c.in_ok-put_cluster.ensures ∙ ap (λ (xs : List ℕ). with_cluster xs g) c.in_ok-put_bytes.ensures.ok))
    ∙ behind old (codes "tape 2") (after_space (decimal g.node.number)) (after_space (decimal g.nodes)) (after_space (decimal g.silence)) (after_space (decimal g.places)) (after_space (decimal (limits_of g.version).byte))
    (after_space (decimal g.room)) (after_space (decimal h.part)) (after_space (decimal h.before)) (after_space (encode_lower h.boot)) (after_space (sync_word h.syncs)) (after_space (encode_lower h.tag)))
