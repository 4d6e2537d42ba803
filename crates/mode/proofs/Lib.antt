pub mod Tables
pub mod ByMode
