-- The rules on edges, the verdict on a reply, windows, and why brackets and told edges have one tick more, and brackets the flight times less.
pub mod Rules
pub mod Verdict
pub mod BetweenTicks
pub mod Spans
pub mod Windows
