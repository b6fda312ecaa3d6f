use Rattle.std.specs.Prelude.{◌≡◌, ◌⊎◌, map, not, codes}
use Rattle.std.specs.List.{Contains}
use Rattle.ir_ast.specs.declared.modules.Form.TheVariants.{Source}
use Rattle.ir_ast.specs.Lists.{HasFront}
use Rattle.line_parts.specs.Seen.{seen_type, seen_argument}
use Rattle.ir_lines.specs.Sections.{types_of}
use Rattle.ir_lines.specs.Externals.{external, externals_of, helpers}
use Rattle.ir_lines.proofs.NoteLemmas.{not-iff, three-noted}
use Rattle.text_resolve.proofs.OuterLemmas.{notes-both}
use Rattle.text_resolve.proofs.tops.note_declaration.Goals as goal

pub returns : goal.returns
returns c =
    let defined = Contains c.args.top.now.functions c.args.name.now in
    let known = Contains (externals_of c.args.top.now.layouts) (external c.args.name.now (seen_type c.args.answer) (types_of (map seen_argument c.args.parameters.now))) in
    let of_rewritten = Contains helpers c.args.name.now ⊎ HasFront (codes "llvm.") c.args.name.now in
    notes-both c.args.line 3 12 14 defined (¬ known) (c.args.form ≡ Source) of_rewritten c.args.first.now.found c.note_if-3.new.self.found
    (three-noted c.args.line 3 12 14 c.has.result (not c.is_external.result) c.is_reserved.result defined (¬ known) ((c.args.form ≡ Source) × of_rewritten)
    c.args.first.now.found c.note_if.new.self.found c.note_if-2.new.self.found c.note_if-3.new.self.found
    c.has.ensures (not-iff known c.is_external.result c.is_external.ensures) c.is_reserved.ensures
    c.note_if.ensures c.note_if-2.ensures c.note_if-3.ensures)
