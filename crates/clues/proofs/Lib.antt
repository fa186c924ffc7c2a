pub mod Crossings
pub mod Lists
pub mod Looking
pub mod Suspecting
