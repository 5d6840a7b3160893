pub mod Graph
pub mod Numbers
pub mod NodeLists
pub mod Stored
pub mod KeptExpr
