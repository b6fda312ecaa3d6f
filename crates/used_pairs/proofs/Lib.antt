pub mod UseLemmas
