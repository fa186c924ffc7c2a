pub mod Lending
pub mod Walking
