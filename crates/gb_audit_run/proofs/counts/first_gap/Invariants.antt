use Rattle.gb_types.specs.Common.{◌≡◌, ℕ}
use Rattle.gb_audit_run.specs.Counts.{AreCountedTo, noted}
use Rattle.gb_audit_run.proofs.CountLemmas.{of_seat}
use Rattle.gb_audit_run.proofs.counts.first_gap.Given as goal

abbrev pub invariant-loop-place : goal.invariant-loop-place
invariant-loop-place l = ((s : ℕ) → noted l.counts s ≡ of_seat l.entries l.place s) × AreCountedTo l.entries l.place
