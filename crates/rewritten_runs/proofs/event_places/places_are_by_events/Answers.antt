use Rattle.rewritten_runs.proofs.event_places.RunLaws as laws
use Rattle.rewritten_runs.proofs.event_places.places_are_by_events.Goals as goal

pub returns : goal.returns
returns c = laws.places_are_by_events
