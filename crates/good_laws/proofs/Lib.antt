pub mod AnswersLaws
pub mod Settled
pub mod Sound
pub mod Turn
