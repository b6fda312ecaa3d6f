-- A part that isn't read stops what it is a part of.
use Rattle.std.proofs.Common.{◌≡◌, None}
use Rattle.line_parts.specs.declared.faults.Stop.{Stop}
use Rattle.line_parts.specs.declared.faults.Stop.TheVariants as stops
use Rattle.line_parts.specs.Gives.{Found, Stops}

pub stops_whole : {A B : Type 0} (e : Stop) (part : Found A) (whole : Found B) → (part ≡ None → whole ≡ None) → Stops e part → Stops e whole
stops_whole stops.NoReading part whole along h = along h
stops_whole stops.Memory part whole along h = tt
