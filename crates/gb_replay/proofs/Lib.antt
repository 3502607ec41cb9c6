mod LineLemmas
mod ReplayLemmas
mod EntryLemmas
