mod Samples
pub mod AppendLemmas
pub mod ConstantLaws
pub mod EntryLemmas
pub mod RecordLemmas
pub mod MapLemmas
pub mod PlaceFitLaws
pub mod GroupLaws
pub mod FitLaws
pub mod AddressLaws
pub mod SizeLemmas
