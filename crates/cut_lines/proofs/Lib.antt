pub mod Forms
pub mod Lines
pub mod Round
pub mod Meets
pub mod Printed
pub mod Enough
pub mod Replay
