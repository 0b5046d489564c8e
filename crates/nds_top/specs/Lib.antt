pub mod Answers
pub mod Laws
pub mod RunAnswers
pub mod StateAnswers
pub mod Inside
pub mod ViewAnswers
pub mod ListingAnswers
pub mod Resumes
