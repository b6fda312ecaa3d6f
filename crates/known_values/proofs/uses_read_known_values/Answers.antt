use Rattle.std.proofs.Common.{inl, inr}
use Rattle.known_values.proofs.uses_read_known_values.Goals as goal

pub returns : goal.returns
returns c = λ func meanings defined registers line value block place used high all meaning is.
    elim (all value meaning is) [ inl undefined ↦ absurd (defined line value block place used high undefined) | inr holds ↦ holds ]
