pub mod Entries
pub mod Buffers
pub mod Data
pub mod Settled
pub mod NamesStay
pub mod AxesMove
pub mod Lists
