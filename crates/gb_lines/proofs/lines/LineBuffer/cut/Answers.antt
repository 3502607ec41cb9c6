use Rattle.gb_types.specs.Common.{◌≡◌, ◌-◌, length, arith, between}
use Rattle.std.proofs.lemmas.List.Edits.{between_none, length-between}
use Rattle.gb_lines.proofs.CutLemmas.{NoLineFeed-join, IsLine-between, cuts_here, cuts_last, too_long_here}
use Rattle.gb_lines.proofs.lines.LineBuffer.cut.Goals as goal

pub returns-then-line_end-self-gt-LINE-clause-too_long :
    goal.returns-then-line_end-self-gt-LINE-clause-too_long
returns-then-line_end-self-gt-LINE-clause-too_long c _ =
    let b = c.self.inside in
    let found = c.in-Some.ensures.found in
    rw (← c.self.view_is) (too_long_here b.bytes.items b.start c.in-Some.line_end b.end (omega arith) (omega arith) (omega arith)
    (NoLineFeed-join b.bytes.items b.start b.searched c.in-Some.line_end c.self.invariant.no_line_feed (rw c.deref.ensures.value at found.3)) (omega arith))

pub returns-then-self-gt-LINE-clause-too_long : goal.returns-then-self-gt-LINE-clause-too_long
returns-then-self-gt-LINE-clause-too_long c _ =
    let b = c.self.inside in
    rw (← c.self.view_is) (too_long_here b.bytes.items b.start b.end b.end (omega arith) (omega arith) (omega arith)
    (NoLineFeed-join b.bytes.items b.start b.searched b.end c.self.invariant.no_line_feed (rw c.deref.ensures.value at c.in-None.ensures.none)) (omega arith))

pub returns-else-line_end-self-gt-LINE-clause-given :
    goal.returns-else-line_end-self-gt-LINE-clause-given
returns-else-line_end-self-gt-LINE-clause-given c _ =
    let b = c.self.inside in
    let found = c.in-Some.ensures.found in
    rw (← c.self.view_is) (cuts_here b.bytes.items b.start c.in-Some.line_end b.end b.has_ended (omega arith) (omega arith) (omega arith)
    (rw c.deref.ensures.value at found.2)
    (NoLineFeed-join b.bytes.items b.start b.searched c.in-Some.line_end c.self.invariant.no_line_feed (rw c.deref.ensures.value at found.3)) (omega arith))

pub returns-else-self-clause-given : goal.returns-else-self-clause-given
returns-else-self-clause-given c _ =
    let b = c.self.inside in
    rw (← c.self.view_is, c.if-not-self.false, between_none b.bytes.items b.end) (cuts_last b.bytes.items b.start b.end (omega arith) (omega arith)
    (NoLineFeed-join b.bytes.items b.start b.searched b.end c.self.invariant.no_line_feed (rw c.deref.ensures.value at c.in-None.ensures.none)) (omega arith))

pub returns-then-not-self-clause-none : goal.returns-then-not-self-clause-none
returns-then-not-self-clause-none c =
    let b = c.self.inside in
    let count : length (between b.start b.end b.bytes.items) ≡ b.end - b.start = length-between b.bytes.items b.start b.end (omega arith) in
    rw (← c.self.view_is) (record {
      unended = IsLine-between b.bytes.items b.start b.end (omega arith) (NoLineFeed-join b.bytes.items b.start b.searched b.end c.self.invariant.no_line_feed (rw c.deref.ensures.value at c.in-None.ensures.none));
      short = omega (arith, count);
      goes_on = c.if-not-self.true;
    })
