use Rattle.std.proofs.Common.{subst}
use Rattle.std.specs.Prelude.{List, [], ◌≡◌}
use Rattle.ir_lines.specs.Again.{FoundAfter, IsAgain, named_layouts}
use Rattle.ir_lines.specs.Notes.{Notes}
use Rattle.ir_lines.specs.Sections.{LayoutLine, layout_said}
use Rattle.ir_lines.specs.Views.{said}
use Rattle.ir_lines.proofs.NoteLemmas.{notes-nothing}
use Rattle.ir_lines.proofs.AgainLemmas.{found-none}
use Rattle.ir_lines.proofs.scope.Top.add_layout.Goals as goal

pub returns-in-None-clause-noted : goal.returns-in-None-clause-noted
returns-in-None-clause-noted c =
    let none : [] ≡ layout_said c.args.line.now.line (said c.args.line.now.reading) = c.in-None.ensures in
    subst (λ (given : List LayoutLine). Notes c.args.first.now.found c.args.first.now.found
    (FoundAfter IsAgain c.args.self.now.layouts (named_layouts given))) none
    (notes-nothing c.args.first.now.found (FoundAfter IsAgain c.args.self.now.layouts []) (found-none IsAgain c.args.self.now.layouts))
