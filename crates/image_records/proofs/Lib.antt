pub mod Records
pub mod Images
pub mod Inside
pub mod Meaning
pub mod Accepted
pub mod First
pub mod Filled
pub mod Five
