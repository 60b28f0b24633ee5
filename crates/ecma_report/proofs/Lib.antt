mod ItemLines
pub mod Joined
mod ModuleReports
mod ProgramReports
mod Reported
