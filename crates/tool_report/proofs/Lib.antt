pub mod MapTextLemmas
