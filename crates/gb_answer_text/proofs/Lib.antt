pub mod NoticedLemmas
