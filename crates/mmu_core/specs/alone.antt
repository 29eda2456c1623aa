pub mod OthersRest
pub mod AloneKnows
pub mod Leads
pub mod FaultAlone
pub mod LineAlone
pub mod SeenStands
