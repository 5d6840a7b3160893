pub mod NamedLemmas
pub mod TableLemmas
pub mod KeyLemmas
pub mod ByKey
