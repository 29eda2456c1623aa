pub mod GivenLogs
