pub mod BasesLemmas
