pub mod LogReads
