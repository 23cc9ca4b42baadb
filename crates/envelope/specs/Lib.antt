pub mod Acceptance
pub mod Answer
pub mod Channels
pub mod ControlMask
pub mod CounterBlock
