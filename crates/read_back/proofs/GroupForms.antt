-- The lines of both forms of texts: a line of the source form is one of the rewritten form too, and the lines that the rewritten form has besides.
use Rattle.std.proofs.Common.{◌≡◌, refl, ap, ◌∙◌, ℕ, true, false, List, [], ◌∷◌, ◌++◌, map, Option, Some, codes}
use Rattle.sp_text.specs.Tokens.{Tok, tok, tokens, is_name}
use Rattle.sp_text.specs.declared.tokens.Kind.TheVariants as kinds
use Rattle.ir_ast.specs.declared.modules.Form.TheVariants as text_forms
use Rattle.line_parts.specs.Types.{TypeWord}
use Rattle.line_tokens.specs.declared.literals.Literal.{Literal}
use Rattle.line_forms.specs.declared.forms.Form.TheVariants as forms
use Rattle.line_forms.specs.declared.forms.DroppedLine.TheVariants as drop_lines
use Rattle.line_tokens.specs.declared.words.Dropped.TheVariants as drops
use Rattle.line_tokens.specs.declared.words.Flags.TheVariants as flags
use Rattle.line_parts.specs.Drops.{after_bracket}
use Rattle.line_tokens.specs.Families.{statepoint_name, relocate_name, result_front, result_suffix, is_suffix, is_family_name, is_result_of}
use Rattle.line_forms.proofs.FamilyLines.{fit_is, a_statepoint}
use Rattle.line_forms.specs.Forms.{slots, form_in, called_form, declared_form, callee_of, first_global}
use Rattle.line_parts.specs.Lists.{Given}
use Rattle.line_tokens.specs.Marks.{is_word}
use Rattle.line_parts.specs.Parts.{is_value_type, is_answer_type}
use Rattle.line_forms.specs.Slots.{Item, Slot, name, ty, types as types_said, handed, literal, dropped, some_bundles, family_answer}
use Rattle.line_parts.specs.Groups.{suffix_of}
use Rattle.read_back.proofs.Steps.{Reads, IsClean, end, mark, word, local, spaced, space, over_blank, drop_at, drop_end}
use Rattle.read_back.proofs.Spellings.{SpellsType, SpellsLiteral, pointer_type}
use Rattle.read_back.proofs.PartSteps.{managed_step}
use Rattle.read_back.proofs.Listed.{others}
use Rattle.read_back.proofs.Forms.{result_tokens}
use Rattle.read_back.proofs.ListForms.{word_none}
use Rattle.read_back.proofs.FormsIn.{ReadsIn, call_callee, value_in, call_tokens, declare_tokens, declared_name, declared_by}
use Rattle.read_back.proofs.GroupSteps.{as_is, token_then, mark_then, blank_then, global_step, token_step, number_step, call_spelled, SpellsCall, call_step, result_step, family_answer_step, family_step, bracketing_step}
use Rattle.line_parts.proofs.Dropping.{past_all-none}
use Rattle.ir_lines.proofs.PlaceLemmas.{bytes_eq-self}

-- ---- statepoints

-- behind the arguments of a statepoint: attribute groups, what it keeps, and its live entries
abbrev pub bundles_end : List Slot
bundles_end = dropped drops.Groups ∷ some_bundles ∷ dropped drops.Attachments ∷ []

abbrev type_tokens : List Tok → List Tok
type_tokens ts = tok kinds.Word (codes "token") ∷ tok kinds.Punct (codes "(") ∷ tok kinds.Word (codes "i64") ∷ tok kinds.Punct (codes ",") ∷ tok kinds.Word (codes "i32")
    ∷ tok kinds.Punct (codes ",") ∷ tok kinds.Word (codes "ptr") ∷ tok kinds.Punct (codes ",") ∷ tok kinds.Word (codes "i32")
    ∷ tok kinds.Punct (codes ",") ∷ tok kinds.Word (codes "i32") ∷ tok kinds.Punct (codes ",") ∷ tok kinds.Word (codes "...") ∷ tok kinds.Punct (codes ")") ∷ ts

statepoint_callee : (ts : List Tok) → callee_of (tok kinds.Word (codes "call") ∷ type_tokens (tok kinds.Global (codes "@llvm.experimental.gc.statepoint.p0") ∷ ts)) ≡ Some statepoint_name
unfolding callee_of first_global statepoint_name
statepoint_callee ts =
    rw (past_all-none (drops.Words flags.Calling) (tok kinds.Word (codes "call") ∷ type_tokens (tok kinds.Global (codes "@llvm.experimental.gc.statepoint.p0") ∷ ts)) refl)
    (rw (past_all-none drops.Groups (type_tokens (tok kinds.Global (codes "@llvm.experimental.gc.statepoint.p0") ∷ ts)) refl) refl)

abbrev pub statepoint_front : List ℕ → List ℕ
statepoint_front rest = codes "call token (i64, i32, ptr, i32, i32, ...) @llvm.experimental.gc.statepoint.p0(" ++ rest

statepoint_tokens : (rest : List ℕ) → tokens (statepoint_front rest) ≡ tok kinds.Word (codes "call") ∷ type_tokens (tok kinds.Global (codes "@llvm.experimental.gc.statepoint.p0") ∷ tokens (40 ∷ rest))
statepoint_tokens rest =
    (token_then kinds.Word (codes "call") refl refl (blank_then (token_then kinds.Word (codes "token") refl refl (blank_then (mark_then 40 refl (token_then kinds.Word (codes "i64") refl refl (mark_then 44 refl (blank_then
    (token_then kinds.Word (codes "i32") refl refl (mark_then 44 refl (blank_then (token_then kinds.Word (codes "ptr") refl refl (mark_then 44 refl (blank_then
    (token_then kinds.Word (codes "i32") refl refl (mark_then 44 refl (blank_then (token_then kinds.Word (codes "i32") refl refl (mark_then 44 refl (blank_then
    (token_then kinds.Word (codes "...") refl refl (mark_then 41 refl (blank_then (token_then kinds.Global (codes "@llvm.experimental.gc.statepoint.p0") refl refl (as_is (40 ∷ rest)))))))))))))))))))))))))).is

module _ {P Y : Type 0} (n : List ℕ) (is : is_name n ≡ true) {id answer callee count : List ℕ} {a b : Literal} {word_is : TypeWord} {ptext : P → List ℕ} {psaid : P → TypeWord} {ps : List P} {text : Y → List ℕ} {said : Y → Given} {ys : List Y}
    (c : SpellsCall id answer callee count a b word_is ptext psaid ps text said ys) where
  abbrev spelled : List ℕ → List ℕ
  spelled rest = 37 ∷ (n ++ (32 ∷ 61 ∷ 32 ∷ statepoint_front (call_spelled id answer (map ptext ps) callee count (others text ys) rest)))

  abbrev saying : List Item → List Item
  saying items = name n ∷ literal a ∷ ty word_is ∷ types_said (map psaid ps) ∷ name callee ∷ literal b ∷ handed (map said ys) ∷ items

  -- the line of a statepoint whose bundles are spelled by the end of the text
  pub statepoint_line : {rest : List ℕ} {first : Option Tok} {items : List Item} → Reads bundles_end rest first items
      → ReadsIn text_forms.Rewritten (spelled rest) forms.Statepoint (saying items)
  unfolding statepoint_name
  statepoint_line {rest} {items = items} r = record { form_is = form_is; whole = fit_is forms.Statepoint _ _ [] all.whole c.own; clean = all.clean }
    where
      body : List ℕ
      body = call_spelled id answer (map ptext ps) callee count (others text ys) rest

      all : Reads (slots forms.Statepoint) (spelled rest) (Some (tok kinds.Local (37 ∷ n))) (saying items)
      all = local n is refl (space (mark 61 refl refl refl (space (drop_at (drops.Words flags.Calling) (λ more. refl) (word (codes "call") refl refl refl refl (spaced (drop_at drops.Groups (λ more. refl) (over_blank
          (word (codes "token") refl refl refl refl (space (mark 40 refl refl refl (word (codes "i64") refl refl refl refl (mark 44 refl refl refl (space (word (codes "i32") refl refl refl refl (mark 44 refl refl refl (space
          (word (codes "ptr") refl refl refl refl (mark 44 refl refl refl (space (word (codes "i32") refl refl refl refl (mark 44 refl refl refl (space (word (codes "i32") refl refl refl refl (mark 44 refl refl refl (space
          (word (codes "...") refl refl refl refl (mark 41 refl refl refl (space (global_step (codes "llvm.experimental.gc.statepoint.p0") refl refl refl (mark 40 refl refl refl (call_step c r))))))))))))))))))))))))))))))))

      form_is : form_in text_forms.Rewritten (tokens (spelled rest)) ≡ Some forms.Statepoint
      form_is = rw (result_tokens n (statepoint_front body) is) (rw (statepoint_tokens body)
          (value_in (37 ∷ n) statepoint_name (type_tokens (tok kinds.Global (codes "@llvm.experimental.gc.statepoint.p0") ∷ tokens (40 ∷ body))) (statepoint_callee (tokens (40 ∷ body))) ∙ ap Some a_statepoint))

-- ---- results

-- the name of the result of a type: how it ends
pub record ResultNamed {spelled : List ℕ} {of_type : TypeWord} (t : SpellsType spelled of_type) (suffix : List ℕ) : Type 0 where
  pub allowed : is_value_type of_type ≡ true
  pub same : (ts : List Tok) → suffix_of of_type (tok kinds.Word t.first ∷ ts) ≡ suffix
  pub ends : is_suffix (Some suffix) ≡ true
  pub named : is_name (codes "llvm.experimental.gc.result." ++ suffix) ≡ true

result_named : (suffix : List ℕ) → result_suffix (codes "llvm.experimental.gc.result." ++ suffix) ≡ Some suffix
unfolding result_suffix result_front
result_named suffix = refl

result_called : (suffix : List ℕ) → is_suffix (Some suffix) ≡ true → called_form (Some (codes "llvm.experimental.gc.result." ++ suffix)) ≡ forms.GcResult
result_called suffix ends = rw (result_named suffix) (rw ends refl)

result_is : (suffix : List ℕ) → is_result_of suffix (codes "llvm.experimental.gc.result." ++ suffix) ≡ true
result_is suffix = rw (result_named suffix) (bytes_eq-self suffix)

-- `%x = call T @llvm.experimental.gc.result.S(token %t)`
pub result_line : (n : List ℕ) → is_name n ≡ true → {spelled : List ℕ} {of_type : TypeWord} (t : SpellsType spelled of_type) (suffix : List ℕ) → ResultNamed t suffix → (token : List ℕ) → is_name token ≡ true
    → ReadsIn text_forms.Rewritten (37 ∷ (n ++ (32 ∷ 61 ∷ 32 ∷ (codes "call " ++ (spelled ++ (32 ∷ 64 ∷ ((codes "llvm.experimental.gc.result." ++ suffix) ++ (40 ∷ (codes "token %" ++ (token ++ codes ")"))))))))))
    forms.GcResult (name n ∷ ty of_type ∷ name token ∷ [])
result_line n is {spelled} {of_type} t suffix r token token_is = record { form_is = form_is; whole = fit_is forms.GcResult _ _ [] all.whole refl; clean = all.clean }
  where
    o : List ℕ
    o = codes "llvm.experimental.gc.result." ++ suffix

    rest : List ℕ
    rest = codes "token %" ++ (token ++ codes ")")

    text : List ℕ
    text = codes "call " ++ (spelled ++ (32 ∷ 64 ∷ (o ++ (40 ∷ rest))))

    all : Reads (slots forms.GcResult) (37 ∷ (n ++ (32 ∷ 61 ∷ 32 ∷ text))) (Some (tok kinds.Local (37 ∷ n))) (name n ∷ ty of_type ∷ name token ∷ [])
    all = local n is refl (space (mark 61 refl refl refl (space (drop_at (drops.Words flags.Calling) (λ more. refl) (word (codes "call") refl refl refl refl (spaced (drop_at drops.Groups t.group (over_blank
        (result_step t r.allowed suffix o r.same (result_is suffix) r.named refl (mark 40 refl refl refl (token_step token token_is refl (mark 41 refl refl refl (drop_end drops.Groups (drop_end drops.Attachments end))))))))))))))

    form_is : form_in text_forms.Rewritten (tokens (37 ∷ (n ++ (32 ∷ 61 ∷ 32 ∷ text)))) ≡ Some forms.GcResult
    form_is = rw (result_tokens n text is) (rw (call_tokens t o r.named rest)
        (value_in (37 ∷ n) o (tok kinds.Word t.first ∷ (t.more ++ (tok kinds.Global (64 ∷ o) ∷ tokens (40 ∷ rest)))) (call_callee t o r.named (tokens (40 ∷ rest))) ∙ ap Some (result_called suffix r.ends)))

-- ---- relocates

relocate_called : called_form (Some (codes "llvm.experimental.gc.relocate.p1")) ≡ forms.GcRelocate
unfolding statepoint_name relocate_name result_suffix result_front
relocate_called = refl

-- `%x = call P @llvm.experimental.gc.relocate.p1(token %t, i32 B, i32 D)`
pub relocate_line : (n : List ℕ) → is_name n ≡ true → (token : List ℕ) → is_name token ≡ true → {base derived : List ℕ} {b d : Literal} → SpellsLiteral base b → SpellsLiteral derived d
    → ReadsIn text_forms.Rewritten (37 ∷ (n ++ (32 ∷ 61 ∷ 32 ∷ (codes "call ptr addrspace(1) @llvm.experimental.gc.relocate.p1(token %" ++ (token ++ (codes ", i32 " ++ (base ++ (codes ", i32 " ++ (derived ++ codes ")")))))))))
    forms.GcRelocate (name n ∷ name token ∷ literal b ∷ literal d ∷ [])
unfolding relocate_name
relocate_line n is token token_is {base} {derived} {b} {d} s u = record { form_is = form_is; whole = fit_is forms.GcRelocate _ _ [] all.whole refl; clean = all.clean }
  where
    o : List ℕ
    o = codes "llvm.experimental.gc.relocate.p1"

    rest : List ℕ
    rest = codes "token %" ++ (token ++ (codes ", i32 " ++ (base ++ (codes ", i32 " ++ (derived ++ codes ")")))))

    text : List ℕ
    text = codes "call " ++ (codes "ptr addrspace(1)" ++ (32 ∷ 64 ∷ (o ++ (40 ∷ rest))))

    all : Reads (slots forms.GcRelocate) (37 ∷ (n ++ (32 ∷ 61 ∷ 32 ∷ text))) (Some (tok kinds.Local (37 ∷ n))) (name n ∷ name token ∷ literal b ∷ literal d ∷ [])
    all = local n is refl (space (mark 61 refl refl refl (space (drop_at (drops.Words flags.Calling) (λ more. refl) (word (codes "call") refl refl refl refl (spaced (drop_at drops.Groups pointer_type.group (over_blank
        (managed_step pointer_type refl (space (global_step o refl refl refl (mark 40 refl refl refl (token_step token token_is refl (mark 44 refl refl refl (space (number_step (codes "i32") refl refl refl s refl
        (mark 44 refl refl refl (space (number_step (codes "i32") refl refl refl u refl (mark 41 refl refl refl (drop_end drops.Groups (drop_end drops.Attachments end))))))))))))))))))))))

    form_is : form_in text_forms.Rewritten (tokens (37 ∷ (n ++ (32 ∷ 61 ∷ 32 ∷ text)))) ≡ Some forms.GcRelocate
    form_is = rw (result_tokens n text is) (rw (call_tokens pointer_type o refl rest)
        (value_in (37 ∷ n) o (tok kinds.Word pointer_type.first ∷ (pointer_type.more ++ (tok kinds.Global (64 ∷ o) ∷ tokens (40 ∷ rest)))) (call_callee pointer_type o refl (tokens (40 ∷ rest))) ∙ ap Some relocate_called))

-- ---- declarations of the three families, which are dropped

-- the form of a declaration of one of them
family_form : {spelled : List ℕ} {answer : TypeWord} (t : SpellsType spelled answer) (o : List ℕ) → is_name o ≡ true → is_family_name o ≡ true → (rest : List ℕ)
    → form_in text_forms.Rewritten (tokens (codes "declare " ++ (spelled ++ (32 ∷ 64 ∷ (o ++ (40 ∷ rest)))))) ≡ Some (forms.Dropped drop_lines.Family)
family_form t o named is rest =
    let family : declared_form (Some o) ≡ forms.Dropped drop_lines.Family = rw is refl in
    rw (declare_tokens t o named rest) (declared_by o (tok kinds.Word t.first ∷ (t.more ++ (tok kinds.Global (64 ∷ o) ∷ tokens (40 ∷ rest)))) (declared_name t o named (tokens (40 ∷ rest))) ∙ ap Some family)

-- `declare T @f(..)`
pub family_line : {spelled : List ℕ} {answer : TypeWord} (t : SpellsType spelled answer) → is_answer_type answer ≡ true → is_word (codes "token") (tok kinds.Word t.first) ≡ false
    → (o : List ℕ) → is_name o ≡ true → is_family_name o ≡ true → (text : List ℕ) → IsClean text → after_bracket 0 (tokens (text ++ [])) ≡ Some (tokens [])
    → ReadsIn text_forms.Rewritten (codes "declare " ++ (spelled ++ (32 ∷ 64 ∷ (o ++ (40 ∷ (text ++ [])))))) (forms.Dropped drop_lines.Family) (family_answer (Some answer) ∷ [])
family_line {spelled} {answer} t allow other o named is text clean e = record { form_is = family_form t o named is (text ++ []); whole = fit_is (forms.Dropped drop_lines.Family) _ _ [] all.whole refl; clean = all.clean }
  where
    all : Reads (slots (forms.Dropped drop_lines.Family)) (codes "declare " ++ (spelled ++ (32 ∷ 64 ∷ (o ++ (40 ∷ (text ++ [])))))) (Some (tok kinds.Word (codes "declare"))) (family_answer (Some answer) ∷ [])
    all = word (codes "declare") refl refl refl refl (spaced (drop_at drops.HeadAttachments (word_none t.first) (drop_at drops.Groups t.group (over_blank (family_answer_step t allow other refl
        (space (family_step o named is refl (bracketing_step text clean e (drop_end drops.Groups end)))))))))
