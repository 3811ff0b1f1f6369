pub mod Chosen
pub mod Descent
pub mod Picked
pub mod Stretch
