use Rattle.std.proofs.Common.{[], take}
use Rattle.ir_lines.specs.Again.{FoundAfter, IsAgain, named_layouts, named_heads}
use Rattle.ir_lines.specs.Notes.{Notes}
use Rattle.ir_lines.specs.Sections.{layouts_of, heads_of}
use Rattle.ir_lines.specs.Tables.{IsTop}
use Rattle.ir_lines.specs.Views.{seen_lines}
use Rattle.ir_lines.proofs.NoteLemmas.{Either}
use Rattle.ir_lines.proofs.scope.Top.of.Given as goal

abbrev pub invariant-loop-line : goal.invariant-loop-line
invariant-loop-line l = record {
  is : IsTop (seen_lines (take l.line-index l.lines)) l.top;
  noted : Notes l.initial.first.found l.first.found
      (Either (FoundAfter IsAgain [] (named_layouts (layouts_of (seen_lines (take l.line-index l.lines)))))
      (FoundAfter IsAgain [] (named_heads (heads_of (seen_lines (take l.line-index l.lines))))));
}
