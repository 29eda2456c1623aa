pub mod Numbers
pub mod ActorNames
pub mod WordNames
pub mod KindNames
