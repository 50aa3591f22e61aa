pub mod CountLaws
pub mod InputLaws
