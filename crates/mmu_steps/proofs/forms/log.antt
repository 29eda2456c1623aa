pub mod LogMade
