use Rattle.std.proofs.Common.{◌≡◌, length}
use Rattle.line_forms.specs.Forms.{first_global}
use Rattle.line_forms.proofs.opening.first_global.Given as goal

abbrev pub invariant-loop-token : goal.invariant-loop-token
invariant-loop-token l = first_global l.rest ≡ first_global l.cursor

abbrev pub decreases-loop-token : goal.decreases-loop-token
decreases-loop-token l = length l.rest
