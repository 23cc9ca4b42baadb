pub mod SubscriberCalls
pub mod SubscriberTraffic
pub mod SubscriberClaims
