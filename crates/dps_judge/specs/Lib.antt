pub mod Traces
pub mod Unbuilt
pub mod Meaning
pub mod Judgement
pub mod LawsOfTexts
pub mod Reading
