use Rattle.gb_types.specs.Common.{◌∙◌, ◌++◌, ◌∷◌, [], ap}
use Rattle.gb_slot.specs.Kept.{arrivals_of}
use Rattle.gb_slot.proofs.KeptLemmas.{added, added_inside, arrivals_added}
use Rattle.gb_slot.proofs.store.append.Goals as goal

pub returns-clause-entries : goal.returns-clause-entries
returns-clause-entries c = added c.args.bytes.now.items c.extend_from_slice.new.self.items c.args.payload.now c.args.kept.now.items c.push_reserved.new.self.items c.args.from c.len-start.result (rw c.unwrap.ensures at c.extend_from_slice.ensures.items) (c.len-start.ensures ∙ c.args.bytes.now.ok.0) c.push_reserved.ensures.items c.requires.inside

pub returns-clause-inside : goal.returns-clause-inside
returns-clause-inside c = added_inside c.args.bytes.now.items c.extend_from_slice.new.self.items c.args.payload.now c.args.kept.now.items c.push_reserved.new.self.items c.args.from c.len-start.result (rw c.unwrap.ensures at c.extend_from_slice.ensures.items) (c.len-start.ensures ∙ c.args.bytes.now.ok.0) c.push_reserved.ensures.items c.requires.inside

pub returns-clause-arrivals : goal.returns-clause-arrivals
returns-clause-arrivals c = λ ms m len.
    ap (arrivals_of (ms ++ m ∷ [])) c.push_reserved.ensures.items
    ∙ arrivals_added ms m c.args.kept.now.items (record { start = c.len-start.result; from = c.args.from }) len
