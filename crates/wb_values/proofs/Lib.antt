pub mod CalendarLemmas
pub mod DayLemmas
pub mod DecimalLemmas
pub mod Lengths
pub mod LiteralLemmas
pub mod Padded
pub mod WrittenLemmas
