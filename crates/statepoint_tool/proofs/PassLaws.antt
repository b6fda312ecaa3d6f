-- The text of a rewritten module passes.
use Rattle.std.proofs.Common.{◌≡◌, ℕ, ap, sym, subst}
use Rattle.std.specs.Prelude.{Ok}
use Rattle.ir_ast.specs.declared.modules.Form.{Form}
use Rattle.ir_ast.specs.declared.modules.Form.TheVariants.{Rewritten, Source}
use Rattle.ir_ast.specs.Modules.{LinedModule, ModuleContent}
use Rattle.ir_lines.specs.Modules.{module_of}
use Rattle.ir_lines.specs.Statements.{lines_of}
use Rattle.ir_printer.specs.Texts.{text_of}
use Rattle.ir_reader.specs.Text.{readings_in}
use Rattle.ir_types.specs.FaultSet.{HasNoFault}
use Rattle.pair_facts.specs.Faults.{IsFault, IsVerified}
use Rattle.read_back.proofs.accepted_texts.Accepted.{accepted_is_source}
use Rattle.read_back.proofs.TheLaw.{reads_back}
use Rattle.sp_rewrite.proofs.RewrittenLaws.{rewriting_is_target, rewriting_is_verified}
use Rattle.statepoint_verify.specs.declared.faults.VerifyFault.TheVariants as refusals
use Rattle.statepoint_tool.specs.Passes.{AcceptedTextsPass, RewrittenTextsPass, VerifierRefusesNone}

not_verified : (whole : LinedModule) → IsVerified whole.content → (line code : ℕ) → IsFault whole line code → ⊥
not_verified whole verified line code fault = verified fault.number fault.block fault.place code fault.func fault.defined fault.fault

pub verifier_refuses_none : VerifierRefusesNone
verifier_refuses_none whole (refusals.Fault fault back) verified refusal = absurd (not_verified whole verified fault.line fault.code refusal.1.fault)
verifier_refuses_none whole (refusals.Memory back) verified refusal = ap refusals.Memory refusal

pub rewritten_texts_pass : RewrittenTextsPass
rewritten_texts_pass content after source is short =
    let target = rewriting_is_target content after source is in
    let back = reads_back Rewritten after target short in
    let same : (module_of Rewritten (lines_of back.readings)).content ≡ after =
    subst (λ (form : Form). (module_of form (lines_of back.readings)).content ≡ after) target.typed.of_form back.same in
    record {
      readings = back.readings;
      reads = subst (λ (form : Form). readings_in form (text_of after) ≡ Ok back.readings) target.typed.of_form back.reads;
      no_fault = subst (λ (form : Form). HasNoFault form (lines_of back.readings)) target.typed.of_form back.no_fault;
      verified = subst (λ (content : ModuleContent). IsVerified content) (sym same) (rewriting_is_verified content after source is);
    }

pub accepted_texts_pass : AcceptedTextsPass
accepted_texts_pass text readings after within reads none is short =
    rewritten_texts_pass (module_of Source (lines_of readings)).content after (accepted_is_source text readings within reads none) is short
