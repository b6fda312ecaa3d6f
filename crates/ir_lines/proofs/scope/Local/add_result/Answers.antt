use Rattle.std.proofs.Common.{subst}
use Rattle.std.specs.Prelude.{Option, List, ℕ, [], None, ◌≡◌}
use Rattle.line_parts.specs.Types.{TypeWord}
use Rattle.ir_lines.specs.Again.{FoundAfter, IsBadName, named_values}
use Rattle.ir_lines.specs.Notes.{Notes}
use Rattle.ir_lines.specs.Parts.{gives}
use Rattle.ir_lines.specs.Sections.{result_named}
use Rattle.ir_lines.specs.Views.{said}
use Rattle.ir_lines.proofs.NoteLemmas.{notes-nothing}
use Rattle.ir_lines.proofs.AgainLemmas.{found-none}
use Rattle.ir_lines.proofs.scope.Local.add_result.Goals as goal

pub returns-in-None-clause-noted : goal.returns-in-None-clause-noted
returns-in-None-clause-noted c =
    let none : None ≡ gives (said c.args.line.now.reading) = c.in-None.ensures in
    subst (λ (given : Option (List ℕ × TypeWord)). Notes c.args.first.now.found c.args.first.now.found
    (FoundAfter (IsBadName c.args.form) c.args.self.now.values (named_values (result_named c.args.line.now.line given)))) none
    (notes-nothing c.args.first.now.found (FoundAfter (IsBadName c.args.form) c.args.self.now.values []) (found-none (IsBadName c.args.form) c.args.self.now.values))
