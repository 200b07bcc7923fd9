pub mod AlongLemmas
pub mod ArgumentLemmas
pub mod KeptLemmas
pub mod LiteralLemmas
pub mod OrderLemmas
pub mod PairLemmas
pub mod ToldLemmas
