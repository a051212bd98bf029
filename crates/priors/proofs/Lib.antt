pub mod WithBits
