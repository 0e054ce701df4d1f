-- What the listing program prints for a file, turn by turn and as a whole; that the turns end, and that joined they are the whole.
pub mod Listing
pub mod Turns
pub mod Promises
