pub mod LineLaws
pub mod ValueLaws
pub mod PlaceLaws
pub mod Settled
pub mod UseLaws
pub mod PhiLaws
pub mod FormLaws
pub mod TypeLaws
pub mod DerivedLaws
pub mod FunctionLaws
pub mod ModuleLaws
pub mod SettleLaws
pub mod LiteralLaws
pub mod StepLaws
mod Samples
