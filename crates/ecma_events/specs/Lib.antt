pub mod Event
