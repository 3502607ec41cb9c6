use Rattle.gb_types.specs.Common.{◌≡◌, true, refl, subst, Option, IfSome}
use Rattle.gb_record_text.specs.RecordText.{entry_line}
use Rattle.gb_record_text.specs.declared.reading.ReadEntry.{ReadEntry}
use Rattle.gb_resume.proofs.ReadLemmas.{at_line, read_end, read_head_so, read_more}
use Rattle.gb_resume.proofs.reading.take_line.Goals as goal

pub returns-then-not-reading-clause-read : goal.returns-then-not-reading-clause-read
returns-then-not-reading-clause-read c = λ start before text has.
    let found = c.in_ok-take_head.ensures.head in
    read_head_so c.args.wanted.now start c.args.begun.now before c.args.reading.now c.take_head.new.reading c.saturating_add-reading.result text c.args.line.now found.0 has c.if-not-reading.true found.1 found.2 c.in_ok-take_head.ensures.new

pub returns-then-is_end-clause-read : goal.returns-then-is_end-clause-read
returns-then-is_end-clause-read c = λ start before text has.
    read_end c.args.wanted.now start c.args.begun.now before c.args.reading.now (record c.args.reading.now { line = c.saturating_add-reading.result; is_whole = true }) text c.args.line.now has c.if-not-reading.false c.if-reading.false
    (c.is_end.ensures c.if-is_end.true) refl refl refl refl refl refl

pub returns-in_ok-take_entry-in-Some-clause-read : goal.returns-in_ok-take_entry-in-Some-clause-read
returns-in_ok-take_entry-in-Some-clause-read c = λ start before text has.
    let r = c.args.reading.now in
    let read = c.in-Some.read in
    let spelt : entry_line read.node read.entry ≡ c.args.line.now = subst (λ (o : Option ReadEntry). IfSome o (λ found. entry_line found.node found.entry ≡ c.args.line.now)) c.in-Some.is c.in_ok-read.ensures.line in
    let same = c.take_entry.ensures.same in
    read_more c.args.wanted.now start c.args.begun.now c.take_entry.new.begun before r c.take_entry.new.reading text c.args.line.now read.node read.entry has c.if-not-reading.false c.if-reading.false spelt c.if-branch-wanted.true
    same.part same.has_head same.is_whole (λ es at. c.in_ok-take_entry-in-Some.ensures.at start es (at_line start c.args.begun.now es r (record r { line = c.saturating_add-reading.result }) refl refl refl at))
