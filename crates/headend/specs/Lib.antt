pub mod HeadCalls
pub mod HeadTraffic
pub mod WithoutGroups
