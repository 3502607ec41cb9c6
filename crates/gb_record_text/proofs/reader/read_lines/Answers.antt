use Rattle.gb_types.specs.Common.{◌≡◌, List, ◌++◌, ◌∷◌, [], Bool, false, subst, sym, All, Option, IfSome, All-push}
use Rattle.gb_node.specs.declared.tape.TapeEntry.{TapeEntry}
use Rattle.gb_record_text.specs.Fits.{FitsEntry}
use Rattle.gb_record_text.specs.RecordText.{entry_line}
use Rattle.gb_record_text.specs.declared.reading.ReadEntry.{ReadEntry}
use Rattle.gb_record_text.proofs.RecordLemmas.{AreRead, more}
use Rattle.gb_record_text.proofs.reader.read_lines.Goals as goal

pub lines-preserved : goal.lines-preserved
lines-preserved c =
    let b = c.args.node in
    let es = c.lines.found.entries.items in
    let line = c.in-Some.line.now in
    let behind = c.in-Some.behind.now in
    let are : AreRead b es false c.lines.rest.now c.args.text.now = subst (λ (w : Bool). AreRead b es w c.lines.rest.now c.args.text.now) c.if-found.false c.lines.invariant.0 in
    let spelt : entry_line c.in-Some-2.read.node c.in-Some-2.read.entry ≡ line =
    subst (λ (o : Option ReadEntry). IfSome o (λ read. entry_line read.node read.entry ≡ line)) c.in-Some-2.is c.in_ok-read.ensures.line in
    let fits : FitsEntry c.in-Some-2.read.entry = subst (λ (o : Option ReadEntry). IfSome o (λ read. FitsEntry read.entry)) c.in-Some-2.is c.in_ok-read.ensures.fits in
    let read = more b c.in-Some-2.read.node es c.in-Some-2.read.entry c.lines.rest.now line behind c.args.text.now are c.in-Some.ensures.some spelt c.if-branch-node.true in (
      subst (λ (xs : List TapeEntry). AreRead b xs c.lines.found.is_whole behind c.args.text.now) (sym c.in_ok-push-in-Some-2.ensures.items)
          (subst (λ (w : Bool). AreRead b (es ++ c.in-Some-2.read.entry ∷ []) w behind c.args.text.now) (sym c.if-found.false) read),
      subst (All FitsEntry) (sym c.in_ok-push-in-Some-2.ensures.items) (All-push FitsEntry es c.in-Some-2.read.entry c.lines.invariant.1 fits),
    )
