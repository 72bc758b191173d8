pub mod Earlier
pub mod Laws
pub mod LineLaws
pub mod Numbers
pub mod Tables
pub mod Views
