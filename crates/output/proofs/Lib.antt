pub mod DecimalLaws
pub mod BehindLaws
