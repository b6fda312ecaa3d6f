-- What a text that stands for a module is not, and that it stands for one alone.
use Rattle.std.proofs.Common.{◌≡◌, refl, sym, ap, ◌∙◌, subst, ◌≤◌, ℕ, List, length, Ok, Err}
use Rattle.std.specs.Prelude.{Result}
use Rattle.ir_ast.specs.declared.modules.Form.{Form}
use Rattle.ir_ast.specs.declared.modules.Form.TheVariants.{Source, Rewritten}
use Rattle.ir_ast.specs.Modules.{ModuleContent}
use Rattle.ir_cfg.specs.TypedModules.{IsModuleOf}
use Rattle.ir_lines.specs.Statements.{lines_of}
use Rattle.ir_lines.specs.Modules.{module_of}
use Rattle.ir_printer.specs.Texts.{text_of}
use Rattle.ir_reader.specs.Text.{Numbered, Fault, readings_in}
use Rattle.ir_types.specs.FaultSet.{HasNoFault, HasFault as HasTextFault}
use Rattle.read_back.specs.ReadsBack.{ReadsBack}
use Rattle.read_back.proofs.TheLaw.{reads_back}
use Rattle.read_back.proofs.accepted_texts.Accepted.{accepted_is_of}
use Rattle.llvm_lift.specs.Texts.{StandsFor, IsNone, IsPrinted, HasFault, unread, passes, untyped}

same_ok : (read : Result (List Numbered) Fault) (one other : List Numbered) → read ≡ Ok one → read ≡ Ok other → one ≡ other
same_ok read one other first second = let same = sym first ∙ second in cc

one_content : (form : Form) (one other : List Numbered) → one ≡ other → (module_of form (lines_of one)).content ≡ (module_of form (lines_of other)).content
one_content form one other same = ap (λ it. (module_of form (lines_of it)).content) same

-- a text stands for one module
pub stands_for_one : (form : Form) (text : List ℕ) (one other : ModuleContent) → StandsFor form text one → StandsFor form text other → one ≡ other
stands_for_one form text one other first second =
    sym first.is ∙ one_content form first.readings second.readings (same_ok (readings_in form text) first.readings second.readings first.reads second.reads) ∙ second.is

-- a text with a fault stands for none
pub faulty_is_none : (form : Form) (text : List ℕ) (line code : ℕ) → HasFault form text line code → IsNone form text
faulty_is_none form text line code (unread none) content stands = absurd (let bad = sym none ∙ stands.reads in cc)
faulty_is_none form text line code (passes none) content stands = absurd (let bad = sym none ∙ stands.reads in cc)
faulty_is_none form text line code (untyped readings found reads least) content stands =
    let same : stands.readings ≡ readings = same_ok (readings_in form text) stands.readings readings stands.reads reads in
    stands.faultless line found (subst (λ (it : List Numbered). HasTextFault form (lines_of it) line found) (sym same) least.is)

-- the printed text of a module of a form stands for it
pub printed_stands : (form : Form) (content : ModuleContent) → IsModuleOf form content → length (text_of content) ≤ 16777216
    → StandsFor form (text_of content) content
printed_stands form content is small =
    let back = reads_back form content is small in
    let own : StandsFor content.form (text_of content) content = record {
      readings = back.readings;
      reads = back.reads;
      faultless = back.no_fault;
      is = back.same;
    } in
    subst (λ (f : Form). StandsFor f (text_of content) content) is.typed.of_form own

-- what a text stands for is a module of its form
pub stands_for_module : (form : Form) (text : List ℕ) (content : ModuleContent) → length text ≤ 16777216 → StandsFor form text content
    → IsModuleOf form content
stands_for_module form text content small stands =
    subst (IsModuleOf form) stands.is (accepted_is_of form text stands.readings small stands.reads stands.faultless)
