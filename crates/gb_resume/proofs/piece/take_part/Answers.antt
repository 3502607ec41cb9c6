use Rattle.gb_types.specs.Common.{◌≡◌, ℕ, ◌<◌, List, [], ◌∷◌, refl, subst, take, length, arith}
use Rattle.std.specs.Io.KnownBytes.{Consumes}
use Rattle.gb_resume.proofs.KeptLemmas.{reads_all, reads_more, reads_still}
use Rattle.gb_resume.proofs.piece.take_part.Goals as goal
use Rattle.gb_resume.proofs.piece.take_part.Goals.{in-Ok+in_ok-take_piece-in-Ok, in-Err+in-Interrupted}

no_bytes : (xs : List ℕ) → take 0 xs ≡ []
no_bytes [] = refl
no_bytes (x ∷ xs) = refl

pub returns-in-Ok-eq0 : goal.returns-in-Ok-eq0
returns-in-Ok-eq0 g c =
    let rest = g.R.Read.remaining c.reads.reader in
    let after = g.R.Read.remaining c.read.new.self in
    let bytes = c.in-Ok-eq0.ensures.bytes in
    let none : c.in-Ok-eq0.field-0 ≡ 0 = omega (arith, c.in-Ok-eq0.field-0-is) in
    record {
      text = reads_all c.args.wanted.now c.args.begun.now c.reads.begun c.args.reading.now c.reads.reading c.reads.kept.items (g.R.Read.remaining c.args.reader.now) rest after c.reads.invariant
          (subst (Consumes rest after) (no_bytes c.read.new.buf) (subst (λ n. Consumes rest after (take n c.read.new.buf)) none bytes.0)) (bytes.1 none (omega arith));
    }

pub reads-preserved : goal.reads-preserved
reads-preserved g c =
    let input = g.R.Read.remaining c.args.reader.now in
    let rest = g.R.Read.remaining c.reads.reader in
    let after = g.R.Read.remaining c.read.new.self in
    elim c.match-read.branch [
      | in-Ok+in_ok-take_piece-in-Ok w ↦ rw (w.begun-is, w.reading-is, w.kept-is) (reads_more c.args.wanted.now c.args.begun.now c.reads.begun w.take_piece.new.begun c.args.reading.now c.reads.reading w.take_piece.new.reading c.reads.kept.items w.take_piece.new.kept.items
          (take w.in-Ok.count c.read.new.buf) input rest after c.reads.invariant w.in-Ok.ensures.bytes.0 (λ old before all has. w.in_ok-take_piece-in-Ok.ensures.kept old before all has) w.take_piece.ensures.part)
      | in-Err+in-Interrupted w ↦ rw (w.begun-is, w.reading-is, w.kept-is) (reads_still c.args.wanted.now c.args.begun.now c.reads.begun c.args.reading.now c.reads.reading c.reads.kept.items input rest after c.reads.invariant w.in-Err.ensures.bytes)
    ]
