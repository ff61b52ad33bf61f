pub mod StateFaults
pub mod AskedKeys
pub mod Questions
pub mod Resumption
pub mod HeadTexts
pub mod QuestionAnswers
pub mod QuestionWords
pub mod Show
