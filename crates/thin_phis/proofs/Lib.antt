mod NumberLaws
mod TextLaws
mod RunLemmas
mod CountLemmas
mod VersionLaws
mod Samples
