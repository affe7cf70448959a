pub mod Accounts
pub mod State
pub mod Kind
pub mod Kinds
pub mod Sound
