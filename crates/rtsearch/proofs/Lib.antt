pub mod ErrandLemmas
pub mod OptionLemmas
pub mod PassedValues
pub mod RunLemmas
