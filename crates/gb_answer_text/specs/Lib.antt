pub mod AnswerText
