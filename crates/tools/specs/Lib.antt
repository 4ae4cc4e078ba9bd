pub mod Result
pub mod Told
pub mod Numbers
pub mod Written
pub mod Printing
pub mod Cut
pub mod Serving
