pub mod Answering
pub mod OneMeaning
pub mod OneFault
pub mod LawfulMeanings
pub mod SomeMeaning
