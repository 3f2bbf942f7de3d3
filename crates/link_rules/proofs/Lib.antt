pub mod SenderRange
pub mod ReceiverRange
pub mod Halves
pub mod BreakAndEnd
pub mod AtRest
