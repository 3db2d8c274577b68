-- How many terms a store needs room for.
pub use Rattle.triple_catalog.specs.Room.{distinct, room_for, terms_of}
