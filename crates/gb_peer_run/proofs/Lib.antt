mod ComplaintLemmas
mod RefusedLemmas
mod ServedLemmas
