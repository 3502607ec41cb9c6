use Rattle.gb_types.specs.Common.{take, All, AllPairs, AllZip}
use Rattle.gb_record_text.specs.Fits.{FitsRecord}
use Rattle.gb_audit_run.specs.Audits.{AreOfOne, HasText}
use Rattle.gb_audit_run.proofs.audit.read_all.Given as goal

abbrev pub invariant-loop-source : goal.invariant-loop-source
invariant-loop-source l = AllZip HasText (take l.source-index l.sources) l.records.items × AllPairs (λ r. λ s. AreOfOne r.head s.head) l.records.items × All FitsRecord l.records.items
