-- Texts of lists.
pub use Rattle.piece_writer.specs.Lists.{led, joined}
