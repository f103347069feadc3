pub mod Bodies
pub mod Tests
