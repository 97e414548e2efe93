-- For writes of one amount.
pub mod OtherAmounts
pub mod Written
