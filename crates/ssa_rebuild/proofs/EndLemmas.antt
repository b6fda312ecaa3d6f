-- A block that is written ends as before.
use Rattle.std.proofs.Common.{◌≡◌, ◌∙◌, ℕ, suc, Bool, true, false, not, List, [], ◌∷◌, ◌++◌, Option, Some, None, refl, ap, sym, arith, append_assoc, inl, inr}
use Rattle.std.specs.List.{list_all}
use Rattle.std.proofs.lemmas.Bool.{cases_Bool, false≢true}
use Rattle.std.proofs.lemmas.List.Folds.{list_all-append}
use Rattle.sp_ids.specs.declared.ids.BlockId.{BlockId}
use Rattle.sp_ids.specs.declared.ids.ValueId.{ValueId}
use Rattle.ir_ast.specs.declared.types.Ty.{Ty}
use Rattle.ir_ast.specs.declared.ops.Op.{Op}
use Rattle.ir_ast.specs.declared.ops.Op.TheVariants.{Call, Br, CondBr, Switch, Ret, Unreachable}
use Rattle.ir_ast.specs.Ops.{is_terminator}
use Rattle.ir_ast.specs.Insts.{Instruction}
use Rattle.ir_ast.specs.Blocks.{EndsAtTerminator}
use Rattle.rewriting_forms.specs.Numbered.{is_call}
use Rattle.statepoint_insert.specs.declared.groups.Relocate.{Relocate}
use Rattle.statepoint_insert.specs.declared.texts.Counts.{Counts}
use Rattle.statepoint_insert.specs.Groups.{GroupContent}
use Rattle.statepoint_insert.specs.Texts.{result_lines, relocate_lines}
use Rattle.ssa_rebuild.specs.declared.writing.Writing.{Writing}
use Rattle.ssa_rebuild.specs.Written.{plain_written, call_written, group_at, line_written, after, written, behind, phi_lines, phi_after}
use Rattle.ssa_rebuild.proofs.WrittenLemmas.{written_push}

abbrev passes_by : Instruction → Bool
passes_by inst = not (is_terminator inst.op)

phis_pass : (preds : List BlockId) (writing : Writing) (values : List ValueId) → list_all passes_by (phi_lines preds writing values) ≡ true
phis_pass preds writing [] = refl
phis_pass preds writing (value ∷ values) = phis_pass preds (phi_after preds writing) values

pub relocates_pass : (token count rank : ℕ) (relocates : List Relocate) → list_all passes_by (relocate_lines token count rank relocates) ≡ true
relocates_pass token count rank [] = refl
relocates_pass token count rank (relocate ∷ relocates) = relocates_pass token (suc count) (suc rank) relocates

pub results_pass : (token : ℕ) (ty : Ty) (named : Option (List ℕ)) (rest : List Instruction) → list_all passes_by rest ≡ true
    → list_all passes_by (result_lines token ty named ++ rest) ≡ true
results_pass token ty None rest all = all
results_pass token ty (Some name) rest all = all

call_passes : (counts : Counts) (group : GroupContent) (body : List ℕ) (inst : Instruction) (op : Op) → list_all passes_by (call_written counts group body inst op) ≡ true
call_passes counts group body inst (Call callee types) = results_pass _ inst.ty inst.result _ (relocates_pass _ counts.relocates _ group.relocates)
call_passes counts group body inst _ = refl

plain_passes : (body entries : List ℕ) (inst : Instruction) → is_terminator inst.op ≡ false → list_all passes_by (plain_written body entries inst ∷ []) ≡ true
plain_passes body entries inst own = rw own refl

line_passes : (groups : List GroupContent) (writing : Writing) (inst : Instruction) → is_terminator inst.op ≡ false
    → list_all passes_by (line_written groups writing inst) ≡ true
line_passes groups writing inst own = elim (cases_Bool (is_call inst.op)) [
  | inl call ↦ rw call (call_passes writing.counts (group_at groups writing.counts) writing.body inst inst.op)
  | inr plain ↦ rw plain (plain_passes writing.body writing.entries inst own)
]

all_pass : (groups : List GroupContent) (writing : Writing) (insts : List Instruction) → list_all passes_by insts ≡ true
    → list_all passes_by (written groups writing insts) ≡ true
all_pass groups writing [] all = refl
all_pass groups writing (inst ∷ insts) all =
    let own : is_terminator inst.op ≡ false = grind arith in
    let rest : list_all passes_by insts ≡ true = grind arith in
    rw (list_all-append passes_by (line_written groups writing inst) (written groups (after groups writing inst) insts), line_passes groups writing inst own)
    (all_pass groups (after groups writing inst) insts rest)

no_call : (op : Op) → is_terminator op ≡ true → is_call op ≡ false
no_call Br is = refl
no_call CondBr is = refl
no_call Switch is = refl
no_call Ret is = refl
no_call Unreachable is = refl
no_call op is = absurd (false≢true is)

pub ends_written : (groups : List GroupContent) (preds : List BlockId) (first writing : Writing) (values : List ValueId) (insts : List Instruction) → EndsAtTerminator insts
    → EndsAtTerminator (phi_lines preds first values ++ written groups writing insts)
ends_written groups preds first writing values insts ends =
    let w = behind groups writing ends.before in
    let phis = phi_lines preds first values in
    let last : line_written groups w ends.last ≡ plain_written w.body w.entries ends.last ∷ [] = rw (no_call ends.last.op ends.ends) refl in
    record {
      before = phis ++ written groups writing ends.before;
      last = plain_written w.body w.entries ends.last;
      whole = ap (λ (is : List Instruction). phis ++ written groups writing is) ends.whole
          ∙ ap (λ (ls : List Instruction). phis ++ ls) (written_push groups writing ends.before ends.last)
          ∙ ap (λ (ls : List Instruction). phis ++ (written groups writing ends.before ++ ls)) last
          ∙ sym (append_assoc phis (written groups writing ends.before) (plain_written w.body w.entries ends.last ∷ []));
      ends = ends.ends;
      inside = rw (list_all-append passes_by phis (written groups writing ends.before), phis_pass preds first values) (all_pass groups writing ends.before ends.inside);
    }
