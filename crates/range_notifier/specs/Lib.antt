pub mod Notifying
