pub mod Written
pub mod Asks
pub mod RunStops
pub mod Promise
pub mod Options
pub mod Doing
