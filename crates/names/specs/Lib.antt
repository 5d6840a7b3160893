pub mod Name
pub mod Texts
pub mod Fault
pub mod Cells
pub mod Role
pub mod Order
pub mod Laws
