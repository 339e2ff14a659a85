pub mod HeadersBack
