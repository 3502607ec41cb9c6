use Rattle.gb_types.specs.Common.{common_steps, ◌≡◌, ◌-◌, length, refl, arith, false≢true, between}
use Rattle.std.proofs.lemmas.List.Edits.{length-between}
use Rattle.gb_lines.proofs.CutLemmas.{NoLineFeed-join, IsLine-between, no_place_within}
use Rattle.gb_lines.proofs.lines.LineBuffer.wants_read.Goals as goal

pub returns-in-Some : goal.returns-in-Some
returns-in-Some c =
    let b = c.self.inside in
    let found = c.in-Some.ensures.found in (
      λ none. absurd (false≢true none),
      λ wants. absurd (no_place_within b.bytes.items b.start c.in-Some.field-0 b.end (omega (arith, found.0)) (omega (arith, found.1)) (omega arith) (rw c.deref.ensures.value at found.2) (rw (← c.self.view_is) at wants.unended)),
    )

pub returns-in-None : goal.returns-in-None
returns-in-None c =
    let b = c.self.inside in
    let count : length (between b.start b.end b.bytes.items) ≡ b.end - b.start = length-between b.bytes.items b.start b.end (omega arith) in (
      λ _. rw (← c.self.view_is) (record {
        unended = IsLine-between b.bytes.items b.start b.end (omega arith) (NoLineFeed-join b.bytes.items b.start b.searched b.end c.self.invariant.no_line_feed (rw c.deref.ensures.value at c.in-None.ensures.none));
        short = omega (arith, count);
        goes_on = c.if-self.false;
      }),
      λ _. refl,
    )

pub returns-then-self : goal.returns-then-self
returns-then-self c = grind (arith, common_steps)
