pub mod Best
pub mod Peeling
pub mod Peelable
pub mod EdgeLists
pub mod PeeledOrder
pub mod PeelPicks
pub mod WithPeeledInfo
pub mod Promise
