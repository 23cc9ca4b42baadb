pub mod SubscriberLift
pub mod SubscriberSteps
pub mod SubscriberTraffic
