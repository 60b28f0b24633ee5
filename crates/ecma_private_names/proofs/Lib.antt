mod Found
mod Left
