pub mod Acceptance
pub mod Channels
pub mod ControlMask
pub mod CounterBlock
