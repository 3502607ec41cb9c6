mod AddressLemmas
mod EntryLemmas
