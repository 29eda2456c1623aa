pub mod Advancing
pub mod LineMade
pub mod StayMade
pub mod KindWaits
pub mod PauseLoaded
pub mod forms
