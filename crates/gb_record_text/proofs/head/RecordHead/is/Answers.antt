use Rattle.gb_types.specs.Common.{◌≡◌, ap}
use Rattle.gb_types.specs.declared.version.Version.{Version}
use Rattle.gb_types.proofs.SameLemmas.{same_number}
use Rattle.gb_record_text.specs.declared.head.RecordHead.{RecordHead}
use Rattle.gb_record_text.proofs.head.RecordHead.is.Goals as goal

same_heads : (g h : RecordHead) → g.node.number ≡ h.node.number → g.nodes ≡ h.nodes → g.silence ≡ h.silence → g.places ≡ h.places → g.room ≡ h.room → g.version ≡ h.version → g ≡ h
same_heads g h number nodes silence places room version =
    let node = same_number g.node h.node number in
    λ i. record { node = node i; nodes = nodes i; silence = silence i; places = places i; version = version i; room = room i }

pub returns : goal.returns
returns c = (
  λ yes. same_heads c.args.self.now c.args.other.now c.if-self-other.false c.if-self-other-2.false c.if-self-other-3.false c.if-self-other-4.false c.if-self-other-5.false (c.same_version.ensures.0 yes),
  λ e. c.same_version.ensures.1 (ap (λ (h : RecordHead). h.version) e),
)
