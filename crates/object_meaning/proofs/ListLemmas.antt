-- Where a list has an element, and where it ends.
pub use Rattle.list_laws.proofs.Places.{drop_at, drop_past as drop_end}
pub use Rattle.std.proofs.lemmas.Bool.{cases_Bool as known}
pub use Rattle.std.proofs.Math.Seq.{take-append_seam as take_front, drop-append_seam as drop_front}
