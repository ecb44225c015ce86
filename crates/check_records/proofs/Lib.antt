pub mod Unread
pub mod Taking
pub mod Places
pub mod Steps
