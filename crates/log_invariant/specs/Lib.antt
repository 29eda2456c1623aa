pub mod Covered
pub mod Forbidding
pub mod Excuses
pub mod LogInvariant
pub mod Laws
pub mod forms
