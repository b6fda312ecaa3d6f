-- The printed text of a module of either form is read, and says what the module says.
use Rattle.std.proofs.Common.{◌≡◌, ◌≤◌, arith, length}
use Rattle.std.specs.List.{Contains}
use Rattle.ir_ast.specs.declared.modules.Form.{Form}
use Rattle.ir_ast.specs.declared.modules.Form.TheVariants.{Source, Rewritten}
use Rattle.ir_ast.specs.Funcs.{Function}
use Rattle.ir_ast.specs.Modules.{ModuleContent}
use Rattle.ir_cfg.specs.TypedModules.{IsTypedModule}
use Rattle.ir_printer.specs.Texts.{text_of}
use Rattle.read_back.specs.Said.{said_by}
use Rattle.read_back.proofs.Blocks.{weight}
use Rattle.read_back.proofs.FunctionsRead.{FunctionReads}
use Rattle.read_back.proofs.FunctionsPrinted.{FunctionIsReadable, function_reads}
use Rattle.read_back.proofs.SourceFunctions.{source_readable}
use Rattle.read_back.proofs.TargetFunctions.{target_readable}
use Rattle.read_back.proofs.NotCalled.{each_of, not_called_in}
use Rattle.read_back.proofs.ModulesRead.{all_instructions, Uncalled, TextReads, module_text_reads}

readable : (form : Form) (content : ModuleContent) → IsTypedModule form content → (func : Function) → Contains content.funcs func → FunctionIsReadable form func
readable Source content typed func c = source_readable content typed func c
readable Rewritten content typed func c = target_readable content typed func c

uncalled : (form : Form) (content : ModuleContent) → IsTypedModule form content → Uncalled form content.funcs
uncalled Source content typed = λ is. not_called_in content typed
uncalled Rewritten content typed = λ is. absurd (let bad : Rewritten ≡ Source = is in cc)

few : (form : Form) (content : ModuleContent) → IsTypedModule form content → weight form (length (all_instructions content.funcs)) ≤ 65536
few Source content typed = typed.small
few Rewritten content typed = omega arith

pub printed_reads : (form : Form) (content : ModuleContent) → IsTypedModule form content → TextReads form (text_of content) (said_by content)
printed_reads form content typed = module_text_reads form content (record {
  layout_names = typed.layout_names;
  limits = typed.limits;
  instructions = few form content typed;
  uncalled = uncalled form content typed;
  functions = each_of content.funcs (FunctionReads form content.layouts content.funcs) (λ func c.
      function_reads form content typed func c (readable form content typed func c));
})
