use Rattle.gb_types.specs.Common.{◌≡◌, ℕ, ◌<◌, vec_len, ap, subst, arith, Option, List, IfSome}
use Rattle.gb_resume.specs.Read.{HasReadAll}
use Rattle.gb_resume.specs.declared.reading.Reading.{Reading}
use Rattle.gb_resume.proofs.PartLemmas.{is_known, stands_more, stands_none}
use Rattle.gb_resume.proofs.all_parts.resume.Goals as goal

pub parts-init : goal.parts-init
parts-init g c =
    let len : vec_len c.in_ok-space.space ≡ 65_536 = c.in_ok-space.ensures in (
      omega (arith, len),
      stands_none (g.P.Parts.text c.args.parts.now) c.args.wanted.now c.args.begun.now c.new-reading.result c.new-reading.ensures.nothing,
    )

pub parts-preserved : goal.parts-preserved
parts-preserved g c =
    let text = g.P.Parts.text c.args.parts.now in
    let w = c.args.wanted.now in
    let old = c.args.begun.now in
    let new = c.take_part.new.begun in
    let u = c.take_part.new.reading in
    let k = c.parts.part in
    let found = c.in_ok-take_part.ensures.text in
    let t = found.0 in
    let begun = c.begin_part.ensures in
    let own : IfSome (text k) (λ known. t ≡ known) =
    subst (λ (o : Option (List ℕ)). IfSome o (λ known. t ≡ known)) (rw c.in-Ok-Some.field-0-is at c.in-Ok-Some.ensures.text)
    (is_known (g.P.Reader.Read.remaining c.in-Ok-Some.reader) (g.P.Reader.Read.remaining c.take_part.new.reader) t found.1 found.2) in (
      c.parts.invariant.0,
      stands_more text w old c.parts.begun new c.parts.reading c.begin_part.new.self u k t c.parts.invariant.1 own
          (ap (λ (r : Reading). r.entries) begun) (ap (λ (r : Reading). r.seat) begun) (ap (λ (r : Reading). r.count) begun)
          (λ before at. subst (λ n. HasReadAll w old new before n u t) (ap (λ (r : Reading). r.part) begun) (found.3 old before at)),
    )
