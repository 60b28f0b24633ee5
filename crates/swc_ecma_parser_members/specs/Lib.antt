pub mod Keys
pub mod Leading
pub mod Made
