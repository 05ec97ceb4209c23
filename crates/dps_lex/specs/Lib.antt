pub mod Alphabet
pub mod Spelling
pub mod CommentText
pub mod LexemeText
pub mod Reading
pub mod LawsOfReading
pub mod Scanning
