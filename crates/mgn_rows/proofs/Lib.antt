-- Why rows and pages of which some are kept are the list that contracts see.
pub mod Kept
pub mod Paged
