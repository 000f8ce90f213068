pub mod Notes
