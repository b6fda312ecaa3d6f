mod ComeLemmas
mod AskLemmas
mod SpotLemmas
mod AskedLemmas
mod KeyLemmas
mod PhiLemmas
mod Samples
mod ShapeLemmas
