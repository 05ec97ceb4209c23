pub mod HeldLemmas
pub mod ReadingLemmas
pub mod WritingLemmas
