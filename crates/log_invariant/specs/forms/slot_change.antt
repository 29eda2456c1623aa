pub mod LogBegins
