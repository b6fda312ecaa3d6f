-- The declarations of the three families, as they are printed: they are read and dropped.
use Rattle.std.proofs.Common.{◌≡◌, refl, ap, ◌∙◌, ℕ, ◌≤◌, true, List, [], ◌∷◌, ◌++◌, Option, Some, None, arith, codes, decimal}
use Rattle.std.specs.List.{list_all}
use Rattle.std.specs.Char.{is_ascii_digit}
use Rattle.sp_text.specs.Tokens.{Tok, tok, tokens, is_name, are_digits}
use Rattle.sp_text.specs.declared.tokens.Kind.TheVariants as kinds
use Rattle.ir_ast.specs.declared.modules.Form.TheVariants as text_forms
use Rattle.line_forms.specs.declared.forms.Form.TheVariants as forms
use Rattle.line_forms.specs.declared.forms.DroppedLine.TheVariants as drop_lines
use Rattle.line_tokens.specs.declared.words.Dropped.TheVariants as drops
use Rattle.line_parts.specs.Types.{TypeWord}
use Rattle.line_parts.specs.Types as types
use Rattle.line_forms.specs.Slots.{family_answer}
use Rattle.line_tokens.specs.Families.{statepoint_name, relocate_name, result_suffix, result_front, is_family_name}
use Rattle.line_forms.proofs.FamilyLines.{fit_is}
use Rattle.line_forms.specs.Forms.{slots, form_in, declared_form, declared_of, first_global}
use Rattle.read_back.proofs.Steps.{Reads, end, word, spaced, space, over_blank, drop_at, drop_end}
use Rattle.read_back.proofs.Spellings.{integer_type, integer_other, pointer_type, pointer_other, decimal-is, decimal-digits}
use Rattle.read_back.proofs.ListForms.{word_none}
use Rattle.read_back.proofs.FormsIn.{ReadsIn, declared_by}
use Rattle.read_back.proofs.CallLines.{digits_named}
use Rattle.read_back.proofs.GroupSteps.{as_is, token_then, blank_then, token_answer_step, family_step, bracketing_step, statepoint_bracket, relocate_bracket, result_bracket}
use Rattle.read_back.proofs.GroupForms.{family_line}
use Rattle.line_parts.proofs.Dropping.{past_all-none}

-- ---- names

relocate_family : is_family_name (codes "llvm.experimental.gc.relocate.p1") ≡ true
unfolding statepoint_name relocate_name result_suffix result_front
relocate_family = refl

statepoint_family : is_family_name (codes "llvm.experimental.gc.statepoint.p0") ≡ true
unfolding statepoint_name relocate_name result_suffix result_front
statepoint_family = refl

pointer_family : is_family_name (codes "llvm.experimental.gc.result.p1") ≡ true
unfolding statepoint_name relocate_name result_suffix result_front
pointer_family = refl

integer_family : (ds : List ℕ) → are_digits ds ≡ true → is_family_name (codes "llvm.experimental.gc.result.i" ++ ds) ≡ true
unfolding statepoint_name relocate_name result_suffix result_front
integer_family ds digits = rw digits refl

integer_name : (ds : List ℕ) → list_all is_ascii_digit ds ≡ true → is_name (codes "llvm.experimental.gc.result.i" ++ ds) ≡ true
integer_name ds digits = rw (digits_named ds digits) refl

-- ---- lines

-- the line is read and dropped
pub record IsDropped (line : List ℕ) : Type 0 where
  pub answer : Option TypeWord
  pub reads : ReadsIn text_forms.Rewritten line (forms.Dropped drop_lines.Family) (family_answer answer ∷ [])

pub relocate_declared : IsDropped (codes "declare ptr addrspace(1) @llvm.experimental.gc.relocate.p1(token, i32, i32)")
relocate_declared = record {
  answer = Some types.Managed;
  reads = family_line pointer_type refl pointer_other (codes "llvm.experimental.gc.relocate.p1") refl relocate_family (codes "token, i32, i32)") refl (relocate_bracket []);
}

pub pointer_declared : IsDropped (codes "declare ptr addrspace(1) @llvm.experimental.gc.result.p1(token)")
pointer_declared = record {
  answer = Some types.Managed;
  reads = family_line pointer_type refl pointer_other (codes "llvm.experimental.gc.result.p1") refl pointer_family (codes "token)") refl (result_bracket []);
}

pub integer_declared : (width : ℕ) → (1 ≤ width) × (width ≤ 64) → IsDropped (codes "declare i" ++ (decimal width ++ (codes " @llvm.experimental.gc.result.i" ++ (decimal width ++ codes "(token)"))))
integer_declared width narrow =
    let most : width ≤ 64 = narrow.1 in
    record {
      answer = Some (types.Int width);
      reads = family_line (integer_type width narrow) refl (integer_other width narrow) (codes "llvm.experimental.gc.result.i" ++ decimal width) (integer_name (decimal width) (decimal-is width (omega arith)).digits)
          (integer_family (decimal width) (decimal-digits width (omega arith))) (codes "token)") refl (result_bracket []);
    }

-- the one of a statepoint answers a token
statepoint_tokens : tokens (codes "declare token @llvm.experimental.gc.statepoint.p0(i64, i32, ptr, i32, i32, ...)")
    ≡ tok kinds.Word (codes "declare") ∷ tok kinds.Word (codes "token") ∷ tok kinds.Global (codes "@llvm.experimental.gc.statepoint.p0") ∷ tokens (codes "(i64, i32, ptr, i32, i32, ...)")
statepoint_tokens =
    (token_then kinds.Word (codes "declare") refl refl (blank_then (token_then kinds.Word (codes "token") refl refl (blank_then
    (token_then kinds.Global (codes "@llvm.experimental.gc.statepoint.p0") refl refl (as_is (codes "(i64, i32, ptr, i32, i32, ...)"))))))).is

statepoint_declares : (ts : List Tok) → declared_of (tok kinds.Word (codes "declare") ∷ tok kinds.Word (codes "token") ∷ tok kinds.Global (codes "@llvm.experimental.gc.statepoint.p0") ∷ ts) ≡ Some (codes "llvm.experimental.gc.statepoint.p0")
unfolding declared_of first_global
statepoint_declares ts =
    let rest : List Tok = tok kinds.Global (codes "@llvm.experimental.gc.statepoint.p0") ∷ ts in
    rw (past_all-none drops.HeadAttachments (tok kinds.Word (codes "token") ∷ rest) (word_none (codes "token") rest)) (rw (past_all-none drops.Groups (tok kinds.Word (codes "token") ∷ rest) refl) refl)

pub statepoint_declared : IsDropped (codes "declare token @llvm.experimental.gc.statepoint.p0(i64, i32, ptr, i32, i32, ...)")
statepoint_declared = record { answer = None; reads = record { form_is = form_is; whole = fit_is (forms.Dropped drop_lines.Family) _ _ [] all.whole refl; clean = all.clean } }
  where
    all : Reads (slots (forms.Dropped drop_lines.Family)) (codes "declare token @llvm.experimental.gc.statepoint.p0(i64, i32, ptr, i32, i32, ...)") (Some (tok kinds.Word (codes "declare"))) (family_answer None ∷ [])
    all = word (codes "declare") refl refl refl refl (spaced (drop_at drops.HeadAttachments (word_none (codes "token")) (drop_at drops.Groups (λ more. refl) (over_blank (token_answer_step refl
        (space (family_step (codes "llvm.experimental.gc.statepoint.p0") refl statepoint_family refl (bracketing_step (codes "i64, i32, ptr, i32, i32, ...)") refl (statepoint_bracket []) (drop_end drops.Groups end)))))))))

    family : declared_form (Some (codes "llvm.experimental.gc.statepoint.p0")) ≡ forms.Dropped drop_lines.Family
    family = rw statepoint_family refl

    form_is : form_in text_forms.Rewritten (tokens (codes "declare token @llvm.experimental.gc.statepoint.p0(i64, i32, ptr, i32, i32, ...)")) ≡ Some (forms.Dropped drop_lines.Family)
    form_is = rw statepoint_tokens (declared_by (codes "llvm.experimental.gc.statepoint.p0") (tok kinds.Word (codes "token") ∷ tok kinds.Global (codes "@llvm.experimental.gc.statepoint.p0") ∷ tokens (codes "(i64, i32, ptr, i32, i32, ...)"))
        (statepoint_declares (tokens (codes "(i64, i32, ptr, i32, i32, ...)"))) ∙ ap Some family)
