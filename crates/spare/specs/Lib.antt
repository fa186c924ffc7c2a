pub mod Slack
pub mod InTime
