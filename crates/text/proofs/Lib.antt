pub mod Laid
pub mod Decimal
pub mod Word
pub mod Going
pub mod Read
pub mod Refused
