mod SplitLemmas
mod SlipLemmas
