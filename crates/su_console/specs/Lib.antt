pub mod QuestionLine
pub mod Printed
pub mod Response
pub mod Words
pub mod Explained
pub mod Contract
