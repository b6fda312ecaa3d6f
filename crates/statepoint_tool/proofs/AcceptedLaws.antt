-- The module of an accepted text.
use Rattle.std.proofs.Common.{◌≡◌, ◌≤◌, ℕ, List, length, sym, subst, ◌∙◌}
use Rattle.ir_ast.specs.declared.modules.Form.{Form as TextForm}
use Rattle.ir_ast.specs.declared.modules.Form.TheVariants as text_forms
use Rattle.ir_cfg.specs.TypedModules.{IsModuleOf}
use Rattle.ir_lines.specs.Statements.{Line}
use Rattle.ir_types.specs.FaultSet.{HasNoFault}
use Rattle.moves_unseen.specs.Waits.{IsSound}
use Rattle.pair_facts.specs.Faults.{IsVerified}
use Rattle.read_back.proofs.accepted_texts.Accepted.{accepted_is_of}
use Rattle.statepoint_tool.specs.Causes.{IsAccepted}
use Rattle.statepoint_tool.specs.Complete.{IsTold}
use Rattle.statepoint_tool.specs.Taken.{Taken, Bytes, FilesSeen, MayGive}
use Rattle.statepoint_tool.specs.Work.{content_of}

pub same_bytes : (one other : List ℕ) → Bytes one ≡ Bytes other → one ≡ other
same_bytes one other is = cc

-- a told text and one that a file may have given are within the limit
pub within_told : (files : FilesSeen) (name text : List ℕ) (taken : Taken) → taken ≡ Bytes text → IsTold files name taken → length text ≤ 16777216
within_told files name text taken is told =
    subst (λ (bytes : List ℕ). length bytes ≤ 16777216) (same_bytes told.bytes text (sym told.given_is ∙ is)) told.within

pub within_given : (files : FilesSeen) (name text : List ℕ) (taken : Taken) → taken ≡ Bytes text → MayGive files name taken → length text ≤ 16777216
within_given files name text taken is may = (let gave : MayGive files name (Bytes text) = subst (MayGive files name) is may in gave.0)

-- it is a source module, or of a rewritten text a target module
pub module_of_accepted : (form : TextForm) (text : List ℕ) (lines : List Line) → length text ≤ 16777216 → IsAccepted form text lines → IsModuleOf form (content_of form lines)
module_of_accepted form text lines within accepted =
    subst (λ (now : List Line). IsModuleOf form (content_of form now)) (sym accepted.read.are)
    (accepted_is_of form text accepted.read.readings within accepted.read.read (subst (HasNoFault form) accepted.read.are accepted.faultless))

-- and sound where the verifier finds no fault
pub sound_of_accepted : (text : List ℕ) (lines : List Line) → length text ≤ 16777216 → IsAccepted text_forms.Rewritten text lines
    → IsVerified (content_of text_forms.Rewritten lines) → IsSound (content_of text_forms.Rewritten lines)
sound_of_accepted text lines within accepted none =
    record { target = module_of_accepted text_forms.Rewritten text lines within accepted; verified = none }
