pub mod StartList
