pub mod Components
pub mod Elements
pub mod Finds
pub mod Nodes
pub mod Replies
pub mod SameNodes
pub mod StatesKept
pub mod Stepped
