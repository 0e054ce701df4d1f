-- What is proved of the definitions in specs/.
pub mod Laws
