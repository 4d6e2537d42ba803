pub mod Keys
pub mod Numbers
pub mod Sheet
pub mod Report
pub mod Program
pub mod Inner
