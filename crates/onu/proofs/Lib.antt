pub mod OnuCalls
