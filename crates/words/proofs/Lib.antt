-- What is proved of the definitions in specs/.
pub mod Examples
pub mod Laws
