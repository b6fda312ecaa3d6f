use Rattle.tool_report.specs.MapTexts.{record_line}
use Rattle.tool_report.proofs.maps.RecordLinePiece.put_into.Goals as goal

pub returns-clause-ok : goal.returns-clause-ok
unfolding record_line
returns-clause-ok g c = rw (← c.return_address-address.ensures, ← c.id-id.ensures) c.put_into.ensures.ok

pub returns-clause-err : goal.returns-clause-err
unfolding record_line
returns-clause-err g c = rw (← c.return_address-address.ensures, ← c.id-id.ensures) c.put_into.ensures.err
