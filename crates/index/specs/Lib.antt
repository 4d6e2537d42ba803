pub mod InnerKeys
pub mod InnerLinks
pub mod Inner
