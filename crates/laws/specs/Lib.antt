-- What is proved of the replay, one module a topic. Each statement is a type, and proofs/ has a theorem of that type.
pub mod Message
pub mod Replay
pub mod Untouched
pub mod Links
pub mod Diverted
pub mod Sharp
pub mod Named
pub mod Cables
