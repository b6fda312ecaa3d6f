use Rattle.std.proofs.Common.{◌∙◌, List, map, refl, ap, sym, subst}
use Rattle.std.specs.List.{AllZip}
use Rattle.ir_ast.specs.Funcs.{Function, content_of, zeros_of}
use Rattle.ir_ast.specs.Modules.{ModuleContent}
use Rattle.folded_forms.specs.Foldings.{IsFolding}
use Rattle.folded_source.specs.Statements.{IsUnder}
use Rattle.ir_simplify.proofs.modules.with_less.Goals as goal

pub returns-clause-less : goal.returns-clause-less
returns-clause-less c =
    let between : ModuleContent = record { layouts = c.into_parts-layouts.result.0.items; funcs = map content_of c.in_ok-between.between.items; form = c.into_parts-layouts.result.2 } in
    record {
      between = between;
      folded = record {
        layouts = c.into_parts-layouts.ensures.layouts;
        form = c.into_parts-layouts.ensures.form;
        functions = subst (λ (fs : List Function). AllZip (IsUnder IsFolding) fs (map content_of c.in_ok-between.between.items)) c.into_parts-layouts.ensures.funcs c.in_ok-between.ensures.functions;
      };
      thinned = rw c.of.ensures.content (record { layouts = refl; form = refl; functions = c.in_ok-after.ensures.functions });
    }

pub returns-clause-lines : goal.returns-clause-lines
returns-clause-lines c =
    c.of.ensures.lines ∙ c.in_ok-after.ensures.lines
    ∙ sym (ap (λ (content : ModuleContent). map zeros_of content.funcs) c.of.ensures.content)

pub returns-clause-reduced : goal.returns-clause-reduced
returns-clause-reduced c = rw c.of.ensures.content c.in_ok-after.ensures.reduced
