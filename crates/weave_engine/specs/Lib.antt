pub mod Writes
pub mod Pieces
pub mod Woven
pub mod Printed
pub mod AnswerTexts
pub mod PrinterLaws
pub mod Statuses
