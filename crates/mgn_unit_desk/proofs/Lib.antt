-- Why desks beside a day show the nets that their stamps stand for.
pub mod Prepares
pub mod Steps
