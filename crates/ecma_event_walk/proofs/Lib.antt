pub mod NameStands
