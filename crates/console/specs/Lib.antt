pub mod QuestionLine
pub mod Printed
pub mod Console
pub mod Contract
