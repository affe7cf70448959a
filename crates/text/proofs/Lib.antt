pub mod Splitting
mod EntriesCarried
mod Carried
mod Sent
mod Lined
mod Fated
pub mod Going
pub mod Noting
mod Counting
mod Streams
