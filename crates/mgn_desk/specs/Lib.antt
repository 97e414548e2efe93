-- What is kept of the nets of the four portfolios of a margin unit, and its desk.
pub mod Risks
pub mod KeptRows
pub mod CommodityRows
pub mod Moved
pub mod UnitLists
pub mod Steps
pub mod WorkedPortfolios
pub mod Portfolios
pub mod Desks
pub mod DeskRows
