use Rattle.std.proofs.Common.{◌≡◌, ◌∙◌, List, length, ap, sym, subst, arith}
use Rattle.std.specs.Prelude.{map, None}
use Rattle.std.specs.Global.{Vec}
use Rattle.std.proofs.lemmas.List.{length-map}
use Rattle.ir_reader.specs.declared.raw.NumberedReading.{NumberedReading}
use Rattle.ir_lines.specs.Sections.{LayoutLine, layouts_of, definitions_of}
use Rattle.ir_lines.specs.Modules.{layout_of}
use Rattle.ir_lines.specs.Views.{seen_line, seen_lines}
use Rattle.module_build.proofs.BuiltLemmas.{lined_with, all-placed, built-module}
use Rattle.module_build.proofs.Placing.{read-placed}
use Rattle.text_resolve.specs.Parts.{lines_in, parted}
use Rattle.text_resolve.proofs.PartLemmas.{InParts, parts-of, as-many, layouts-in, definitions-in, top-in, again-in, outer-in}
use Rattle.text_resolve.proofs.TextUnion.{notes-text}
use Rattle.text_resolve.proofs.BuiltText.{funcs-resolved, rows-resolved}
use Rattle.text_resolve.proofs.texts.resolve.Goals as goal

pub resolve_functions-requires-clause-bodies : goal.resolve_functions-requires-clause-bodies
resolve_functions-requires-clause-bodies c =
    let outer = c.as_slice-outer_lines.result.now in
    let bodies = c.into_parts-outer.result.1.items in
    let p = parts-of c.args.form c.args.lines outer c.into_parts-outer.result.0.items bodies c.as_slice-outer_lines.ensures.value c.into_parts-outer.ensures.lines c.into_parts-outer.ensures.parts c.requires in
    let many = as-many (seen_lines outer) (lines_in bodies) p.parts in
    let seen = length-map outer seen_line in
    let listed = length-map (map (λ (body : Vec NumberedReading). body.items) bodies) seen_lines in
    let taken = length-map bodies (λ (body : Vec NumberedReading). body.items) in
    omega (arith, many, seen, listed, taken)

pub resolve_functions-requires-clause-placed : goal.resolve_functions-requires-clause-placed
resolve_functions-requires-clause-placed c =
    let lines = seen_lines c.args.lines in
    let outer = c.as_slice-outer_lines.result.now in
    let bodies = c.into_parts-outer.result.1.items in
    let p = parts-of c.args.form c.args.lines outer c.into_parts-outer.result.0.items bodies c.as_slice-outer_lines.ensures.value c.into_parts-outer.ensures.lines c.into_parts-outer.ensures.parts c.requires in
    all-placed lines c.in_ok-top.top (parted outer bodies) (top-in lines (seen_lines outer) (lines_in bodies) c.in_ok-top.top p c.in_ok-top.ensures.is)
    (definitions-in lines (seen_lines outer) (lines_in bodies) p) (read-placed c.args.form lines c.requires).functions

pub of-requires-2-clause-few_layouts : goal.of-requires-2-clause-few_layouts
of-requires-2-clause-few_layouts c =
    let lines = seen_lines c.args.lines in
    let outer = c.as_slice-outer_lines.result.now in
    let bodies = c.into_parts-outer.result.1.items in
    let p = parts-of c.args.form c.args.lines outer c.into_parts-outer.result.0.items bodies c.as_slice-outer_lines.ensures.value c.into_parts-outer.ensures.lines c.into_parts-outer.ensures.parts c.requires in
    let built = ap length c.in_ok-layouts.ensures in
    let mapped = length-map (layouts_of (seen_lines outer)) layout_of in
    let same = ap (λ (ls : List LayoutLine). length ls) (layouts-in lines (seen_lines outer) (lines_in bodies) p) in
    let few = (read-placed c.args.form lines c.requires).few_layouts in
    omega (arith, built, mapped, same, few)

pub of-requires-2-clause-few_functions : goal.of-requires-2-clause-few_functions
of-requires-2-clause-few_functions c =
    let lines = seen_lines c.args.lines in
    let outer = c.as_slice-outer_lines.result.now in
    let bodies = c.into_parts-outer.result.1.items in
    let p = parts-of c.args.form c.args.lines outer c.into_parts-outer.result.0.items bodies c.as_slice-outer_lines.ensures.value c.into_parts-outer.ensures.lines c.into_parts-outer.ensures.parts c.requires in
    let built = ap length (funcs-resolved lines c.in_ok-top.top (parted outer bodies) c.in_ok-funcs.funcs.items c.resolve_functions.new.made.items
    c.in_ok-funcs.ensures.items (definitions-in lines (seen_lines outer) (lines_in bodies) p)
    c.in_ok-resolve_functions.ensures.funcs) in
    let mapped = length-map (definitions_of lines) (lined_with c.in_ok-top.top) in
    let few = (read-placed c.args.form lines c.requires).few_functions in
    omega (arith, built, mapped, few)

pub returns-clause-whole : goal.returns-clause-whole
returns-clause-whole c =
    let lines = seen_lines c.args.lines in
    let outer = c.as_slice-outer_lines.result.now in
    let bodies = c.into_parts-outer.result.1.items in
    let p = parts-of c.args.form c.args.lines outer c.into_parts-outer.result.0.items bodies c.as_slice-outer_lines.ensures.value c.into_parts-outer.ensures.lines c.into_parts-outer.ensures.parts c.requires in
    built-module c.args.form lines c.in_ok-top.top (top-in lines (seen_lines outer) (lines_in bodies) c.in_ok-top.top p c.in_ok-top.ensures.is) c.of-2.result
    c.in_ok-layouts.layouts.items c.resolve_functions.new.made.items
    (c.in_ok-layouts.ensures ∙ ap (λ (ls : List LayoutLine). map layout_of ls) (sym (layouts-in lines (seen_lines outer) (lines_in bodies) p)))
    (funcs-resolved lines c.in_ok-top.top (parted outer bodies) c.in_ok-funcs.funcs.items c.resolve_functions.new.made.items
    c.in_ok-funcs.ensures.items (definitions-in lines (seen_lines outer) (lines_in bodies) p)
    c.in_ok-resolve_functions.ensures.funcs)
    c.of-2.ensures.content c.of-2.ensures.lines

pub returns-clause-cases : goal.returns-clause-cases
returns-clause-cases c =
    let lines = seen_lines c.args.lines in
    let outer = c.as_slice-outer_lines.result.now in
    let bodies = c.into_parts-outer.result.1.items in
    let p = parts-of c.args.form c.args.lines outer c.into_parts-outer.result.0.items bodies c.as_slice-outer_lines.ensures.value c.into_parts-outer.ensures.lines c.into_parts-outer.ensures.parts c.requires in
    rows-resolved lines (parted outer bodies) c.in_ok-cases.cases.items c.resolve_functions.new.cases.items
    c.in_ok-cases.ensures.items (definitions-in lines (seen_lines outer) (lines_in bodies) p)
    c.in_ok-resolve_functions.ensures.cases

pub returns-clause-fault : goal.returns-clause-fault
returns-clause-fault c =
    let lines = seen_lines c.args.lines in
    let outer = c.as_slice-outer_lines.result.now in
    let bodies = c.into_parts-outer.result.1.items in
    let p = parts-of c.args.form c.args.lines outer c.into_parts-outer.result.0.items bodies c.as_slice-outer_lines.ensures.value c.into_parts-outer.ensures.lines c.into_parts-outer.ensures.parts c.requires in
    let top = top-in lines (seen_lines outer) (lines_in bodies) c.in_ok-top.top p c.in_ok-top.ensures.is in
    notes-text c.args.form lines c.in_ok-top.top.functions c.in_ok-top.top.layouts (parted outer bodies)
    None c.of.new.first.found c.note_lines.new.first.found c.resolve_functions.new.first.found
    top.functions top.layouts
    (definitions-in lines (seen_lines outer) (lines_in bodies) p)
    (again-in lines (seen_lines outer) (lines_in bodies) None c.of.new.first.found p c.in_ok-top.ensures.noted)
    (outer-in c.args.form c.in_ok-top.top.functions c.in_ok-top.top.layouts lines (seen_lines outer) (lines_in bodies) c.of.new.first.found c.note_lines.new.first.found p c.note_lines.ensures)
    (c.in_ok-resolve_functions.ensures.noted lines top)
