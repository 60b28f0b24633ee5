pub mod Late
pub mod Methods
