pub mod Words
pub mod Reading
pub mod Made
pub mod Finding
pub mod Classes
