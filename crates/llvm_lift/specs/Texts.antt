-- What the front end says of texts.
use Rattle.std.specs.Prelude.{◌≡◌, ◌≤◌, ℕ, List, length, Result, Ok, Err, ⊤}
use Rattle.ir_ast.specs.declared.modules.Form.{Form}
use Rattle.ir_ast.specs.declared.modules.Form.TheVariants.{Source, Rewritten}
use Rattle.ir_ast.specs.Modules.{ModuleContent}
use Rattle.ir_lines.specs.Statements.{Line, lines_of}
use Rattle.ir_lines.specs.Modules.{module_of}
use Rattle.ir_printer.specs.Texts.{text_of}
use Rattle.ir_reader.specs.declared.faults.ReadFault.{ReadFault}
use Rattle.ir_reader.specs.declared.faults.ReadFault.TheVariants as read_faults
use Rattle.ir_reader.specs.Text.{Numbered, readings_in, syntax_fault, limit_fault}
use Rattle.ir_types.specs.FaultSet.{HasNoFault, IsLeastFault}
use Rattle.llvm_lift.specs.declared.front.Judged.{Judged}
use Rattle.llvm_lift.specs.declared.front.Judged.TheVariants.{Printed, Faulty}
use Rattle.llvm_lift.specs.declared.refusals.Refusal.{Refusal}
use Rattle.llvm_lift.specs.declared.refusals.Refusal.TheVariants as refusals

-- the text is accepted in the form, and stands for this module
pub record StandsFor (form : Form) (text : List ℕ) (content : ModuleContent) : Type 0 where
  pub readings : List Numbered
  pub reads : readings_in form text ≡ Ok readings
  pub faultless : HasNoFault form (lines_of readings)
  pub is : (module_of form (lines_of readings)).content ≡ content

abbrev pub IsNone : Form → List ℕ → Type 0
IsNone form text = (content : ModuleContent) → ¬ StandsFor form text content

-- the printed text of the module that a text stands for
pub record IsPrinted (form : Form) (text out : List ℕ) : Type 0 where
  pub content : ModuleContent
  pub stands : StandsFor form text content
  pub is : out ≡ text_of content

-- the first fault of a text in the form: its line, and its code
pub data HasFault (form : Form) (text : List ℕ) (line : ℕ) : ℕ → Type 0 where
  unread : readings_in form text ≡ Err (syntax_fault line) → HasFault form text line 1
  passes : readings_in form text ≡ Err (limit_fault line) → HasFault form text line 2
  untyped : (readings : List Numbered) (code : ℕ) → readings_in form text ≡ Ok readings → IsLeastFault form (lines_of readings) line code → HasFault form text line code

-- the printed text of a module, or want of memory
abbrev pub Prints : ModuleContent → Result Judged Refusal → Type 0
Prints content (Ok (Printed out)) = out.items ≡ text_of content
Prints content (Ok (Faulty fault)) = ⊥
Prints content (Err refusals.Memory) = ⊤
Prints content (Err _) = ⊥

-- the same of lines that were read
pub record IsPrintedOf (form : Form) (lines : List Line) (out : List ℕ) : Type 0 where
  pub faultless : HasNoFault form lines
  pub is : out ≡ text_of (module_of form lines).content

abbrev pub IsJudgedLines : Form → List Line → Result Judged Refusal → Type 0
IsJudgedLines form lines (Ok (Printed out)) = IsPrintedOf form lines out.items
IsJudgedLines form lines (Ok (Faulty fault)) = IsLeastFault form lines fault.line fault.code
IsJudgedLines form lines (Err refusals.Memory) = ⊤
IsJudgedLines form lines (Err _) = ⊥

abbrev pub IsJudged : Form → List ℕ → Result Judged Refusal → Type 0
IsJudged form text (Ok (Printed out)) = IsPrinted form text out.items
IsJudged form text (Ok (Faulty fault)) = HasFault form text fault.line fault.code
IsJudged form text (Err refusals.Memory) = ⊤
IsJudged form text (Err _) = ⊥

-- what is said of a text that has no readings
abbrev pub IsUnread : ReadFault → Result Judged Refusal → Type 0
IsUnread (read_faults.Syntax line) (Ok (Faulty fault)) = (fault.line ≡ line) × (fault.code ≡ 1)
IsUnread (read_faults.Limit line) (Ok (Faulty fault)) = (fault.line ≡ line) × (fault.code ≡ 2)
IsUnread read_faults.Memory (Err refusals.Memory) = ⊤
IsUnread _ _ = ⊥
