pub mod AskedLemmas
pub mod HeaderLemmas
pub mod PathLemmas
pub mod ReadLemmas
pub mod TypeTextLemmas
pub mod SchemaFormLemmas
