pub mod Ages
pub mod Keeping
pub mod Packing
pub mod RoundTrip
pub mod WithinLaws
pub mod DecisionLaws
pub mod AppendLaws
pub mod Worked
