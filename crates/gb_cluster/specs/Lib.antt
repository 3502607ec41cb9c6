pub mod ClusterValue
pub mod ClusterStep
pub mod Run
pub mod Links
pub mod Common
