-- What is proved of the texts of rewritten modules.
use Rattle.std.specs.Prelude.{◌≡◌, ◌≤◌, ℕ, List, Ok, length}
use Rattle.ir_ast.specs.declared.modules.Form.TheVariants.{Rewritten, Source}
use Rattle.ir_ast.specs.Modules.{LinedModule, ModuleContent}
use Rattle.ir_cfg.specs.SourceModules.{IsSourceModule}
use Rattle.ir_lines.specs.Modules.{module_of}
use Rattle.ir_lines.specs.Statements.{lines_of}
use Rattle.ir_printer.specs.Texts.{text_of}
use Rattle.ir_reader.specs.Text.{Numbered, readings_in}
use Rattle.ir_types.specs.FaultSet.{HasNoFault}
use Rattle.pair_facts.specs.Faults.{IsVerified}
use Rattle.sp_rewrite.specs.Statements.{IsRewritten}
use Rattle.statepoint_verify.specs.Verdicts.{IsRefusal}
use Rattle.statepoint_verify.specs.declared.faults.VerifyFault.{VerifyFault}
use Rattle.statepoint_verify.specs.declared.faults.VerifyFault.TheVariants.{Memory}

-- the text has readings in the rewritten form, these no fault, and the module that they stand for none of the verifier
pub record Passes (text : List ℕ) : Type 0 where
  pub readings : List Numbered
  pub reads : readings_in Rewritten text ≡ Ok readings
  pub no_fault : HasNoFault Rewritten (lines_of readings)
  pub verified : IsVerified (module_of Rewritten (lines_of readings)).content

-- the text of the rewritten module of a source module passes, where it is within the file limit
abbrev pub RewrittenTextsPass : Type 0
RewrittenTextsPass = (content after : ModuleContent) → IsSourceModule content → IsRewritten content after → length (text_of after) ≤ 16777216
    → Passes (text_of after)

-- so text to text: that of the rewritten module of an accepted source text
abbrev pub AcceptedTextsPass : Type 0
AcceptedTextsPass = (text : List ℕ) (readings : List Numbered) (after : ModuleContent) → length text ≤ 16777216
    → readings_in Source text ≡ Ok readings → HasNoFault Source (lines_of readings) → IsRewritten (module_of Source (lines_of readings)).content after
    → length (text_of after) ≤ 16777216 → Passes (text_of after)

-- what the verifier answers of a module without a fault, if it refuses it
abbrev pub VerifierRefusesNone : Type 0
VerifierRefusesNone = (whole : LinedModule) (fault : VerifyFault) → IsVerified whole.content → IsRefusal whole fault → fault ≡ Memory whole
