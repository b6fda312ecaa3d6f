-- Printing and reading back, from both halves: the text is read, and its lines stand for the module. They have no fault of
-- their own, and those of a module that has none aren't there either; its uses are definite.
use Rattle.std.proofs.Common.{sym, subst}
use Rattle.std.specs.List.{All}
use Rattle.ir_ast.specs.declared.modules.Form.{Form}
use Rattle.ir_ast.specs.Faultless.{HasNoFault}
use Rattle.ir_ast.specs.Modules.{ModuleContent}
use Rattle.ir_cfg.specs.DefiniteUses.{UsesAreDefinite}
use Rattle.ir_cfg.specs.TypedModules.{IsTypedModule}
use Rattle.ir_printer.specs.Texts.{text_of}
use Rattle.ir_lines.specs.Statements.{lines_of}
use Rattle.ir_resolve.proofs.Faultless.{resolved_faultless}
use Rattle.ir_types.proofs.PathLaw.{definite-faultless}
use Rattle.read_back.specs.Said.{said_by}
use Rattle.read_back.specs.ReadsBack.{ReadsBack, EachReadsBack}
use Rattle.read_back.proofs.BackFaultless.{no_text_fault}
use Rattle.read_back.proofs.BackModules.{shaped_of, module-back}
use Rattle.read_back.proofs.ModulesRead.{TextReads}
use Rattle.read_back.proofs.TextsRead.{printed_reads}

read_back : (content : ModuleContent) → IsTypedModule content.form content → All UsesAreDefinite content.funcs
    → TextReads content.form (text_of content) (said_by content) → ReadsBack content
read_back content typed definite text =
    let lines = lines_of text.found in
    let same = module-back content (shaped_of content.form content typed) lines text.same in
    let unbroken = resolved_faultless content.form lines (no_text_fault content.form content typed lines text.same)
    (subst HasNoFault (sym same) typed.no_fault) in
    record {
      readings = text.found;
      reads = text.reads;
      no_fault = definite-faultless content.form lines unbroken (subst (λ (c : ModuleContent). All UsesAreDefinite c.funcs) (sym same) definite);
      same = same;
    }

pub reads_back : (form : Form) → EachReadsBack form
reads_back form content is short =
    let typed = subst (λ (f : Form). IsTypedModule f content) (sym is.typed.of_form) is.typed in
    read_back content typed is.definite (printed_reads content.form content typed)
