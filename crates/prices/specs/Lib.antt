pub mod Price
pub mod Board
