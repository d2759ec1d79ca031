pub mod Leave
