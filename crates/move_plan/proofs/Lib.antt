pub mod DecodeLemmas
pub mod EitherLaws
pub mod EventLemmas
pub mod FaultLaws
pub mod GroupLemmas
pub mod InputLaws
pub mod InputLemmas
pub mod NumberLemmas
pub mod OneLaws
pub mod PlanLemmas
pub mod SortedLemmas
pub mod TextLemmas
pub mod WordLemmas
mod Samples
