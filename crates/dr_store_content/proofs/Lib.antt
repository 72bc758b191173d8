pub mod Numbers
pub mod ReadBack
