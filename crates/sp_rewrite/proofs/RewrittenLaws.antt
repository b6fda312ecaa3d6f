-- The rewritten module of a source module.
use Rattle.std.proofs.Common.{◌≡◌, ◌≤◌, ℕ, suc, inl, inr, Bool, true, false, List, [], ◌∷◌, ◌++◌, length, map, refl, sym, ap, subst, ◌∙◌, append_assoc, arith}
use Rattle.std.specs.Prelude.{Some, slice_get}
use Rattle.std.specs.List.{AllZip}
use Rattle.std.proofs.lemmas.Bool.{cases_lt}
use Rattle.std.proofs.lemmas.List.{length-append}
use Rattle.std.proofs.lemmas.Option.{get_or_from_slice_get}
use Rattle.list_laws.proofs.Places.{get_middle}
use Rattle.list_laws.proofs.Tests.{same_marks}
use Rattle.ir_ast.specs.declared.ops.Operand.{Operand}
use Rattle.ir_ast.specs.Funcs.{Function}
use Rattle.ir_ast.specs.Modules.{ModuleContent}
use Rattle.ir_cfg.specs.TargetModules.{IsTargetModule}
use Rattle.ir_cfg.specs.SourceModules.{IsSourceModule}
use Rattle.ir_cfg.specs.Unreached.{DropsUnreached, ModuleDropsUnreached, function_kept}
use Rattle.ir_cfg.proofs.KeepsSource.{source_after}
use Rattle.object_meaning.specs.TargetRuns.{TargetGives}
use Rattle.base_forms.specs.Polls.{placed}
use Rattle.base_forms.specs.Based.{base_table, based}
use Rattle.pair_facts.specs.Faults.{IsVerified}
use Rattle.rewriting_forms.specs.Rewritten.{rewritten, rewritten_funcs}
use Rattle.rewriting_laws.specs.Statements.{no_function}
use Rattle.rewritten_sound.specs.Definite.{IsReachedSource, base_tables, rewritten_source}
use Rattle.rewritten_sound.proofs.definite.Instance.{rewritten_keeps_meaning}
use Rattle.rewritten_sound.proofs.pairs.TakesFacts.{source_is_verified}
use Rattle.rewritten_sound.proofs.shape.TargetLaws.{rewritten_is_target}
use Rattle.unreached_laws.proofs.MeaningLaws.{unreached_are_no_matter}
use Rattle.unreached_laws.proofs.ReachedLaws.{unreached_are_gone}
use Rattle.unreached_laws.proofs.MarkLaws.{unreached_can_be_dropped}
use Rattle.sp_rewrite.specs.Relocates.{FewAreNotMany, FewOrMany, HasFewRelocates, HasManyRelocates, relocates_in}
use Rattle.sp_rewrite.specs.Statements.{RewritingIsByFunction, RewritingIsOne, RewritingIsTarget, RewritingIsVerified, RewritingKeepsMeaning, SourceIsRewritten}

-- ---- there is one module without unreached blocks

one_function : (func one other : Function) → DropsUnreached func one → DropsUnreached func other → one ≡ other
one_function func one other first second =
    let same = same_marks first.marks second.marks ((first.reached).whole ∙ sym (second.reached).whole)
    (λ k at. (second.reached).complete k ((first.reached).sound k at)) (λ k at. (first.reached).complete k ((second.reached).sound k at)) in
    first.rest ∙ (ap (λ (marks : List Bool). function_kept marks func) same ∙ sym second.rest)

one_list : (funcs one other : List Function) → AllZip DropsUnreached funcs one → AllZip DropsUnreached funcs other → one ≡ other
one_list [] [] [] first second = refl
one_list [] [] (y ∷ other) first second = absurd second
one_list [] (x ∷ one) other first second = absurd first
one_list (func ∷ funcs) [] other first second = absurd first
one_list (func ∷ funcs) (x ∷ one) [] first second = absurd second
one_list (func ∷ funcs) (x ∷ one) (y ∷ other) first second =
    ap (λ (f : Function). f ∷ one) (one_function func x y first.0 second.0) ∙ ap (λ (rest : List Function). y ∷ rest) (one_list funcs one other first.1 second.1)

pub one_reached : (content one other : ModuleContent) → ModuleDropsUnreached content one → ModuleDropsUnreached content other → one ≡ other
one_reached content one other first second =
    let layouts : one.layouts ≡ other.layouts = first.layouts ∙ sym second.layouts in
    let funcs = one_list content.funcs one.funcs other.funcs first.functions second.functions in
    let form : one.form ≡ other.form = first.form ∙ sym second.form in
    ap (λ (kept : List Function). record one { funcs = kept }) funcs
    ∙ (ap (λ form. record one { funcs = other.funcs; form = form }) form
    ∙ ap (λ layouts. record other { layouts = layouts }) layouts)

pub rewriting_is_one : RewritingIsOne
rewriting_is_one content one other first second =
    first.rest ∙ (ap rewritten_source (one_reached content first.reached second.reached first.drops second.drops) ∙ sym second.rest)

-- ---- its functions

rewritten_from : (content : ModuleContent) (before rest : List Function) → content.funcs ≡ before ++ rest
    → rewritten_funcs (base_tables content) (length before) (map (λ func. based (placed func)) rest) ≡ map (λ func. rewritten (based (placed func)) (base_table (placed func))) rest
rewritten_from content before [] is = refl
rewritten_from content before (func ∷ rest) is =
    let found : slice_get content.funcs (length before) ≡ Some func = ap (λ (all : List Function). slice_get all (length before)) is ∙ get_middle before func rest in
    let table : base_tables content (length before) ≡ base_table (placed func) = ap (λ (f : Function). base_table (placed f)) (get_or_from_slice_get content.funcs (length before) func no_function found) in
    let long : suc (length before) ≡ length (before ++ func ∷ []) = (let split = length-append before (func ∷ []) in omega (arith, split)) in
    let further = rewritten_from content (before ++ func ∷ []) rest (is ∙ sym (append_assoc before (func ∷ []) rest)) in
    ap (λ (table : List Operand). rewritten (based (placed func)) table ∷ rewritten_funcs (base_tables content) (suc (length before)) (map (λ func. based (placed func)) rest)) table
    ∙ ap (λ (after : List Function). rewritten (based (placed func)) (base_table (placed func)) ∷ after)
    (ap (λ n. rewritten_funcs (base_tables content) n (map (λ func. based (placed func)) rest)) long ∙ further)

pub rewriting_is_by_function : RewritingIsByFunction
rewriting_is_by_function content after is = ap (λ (now : ModuleContent). now.funcs) is.rest ∙ rewritten_from is.reached [] is.reached.funcs refl

-- ---- what it does

pub reached_source : (content reached : ModuleContent) → IsSourceModule content → ModuleDropsUnreached content reached → IsReachedSource reached
reached_source content reached source drops = record { source = source_after content reached source drops; reached = unreached_are_gone content reached drops }

pub rewriting_keeps_meaning : RewritingKeepsMeaning
rewriting_keeps_meaning content after source is input go bound outcome =
    let drops = unreached_are_no_matter content is.reached source is.drops input go bound outcome in
    let keeps = rewritten_keeps_meaning is.reached (reached_source content is.reached source is.drops) input go bound outcome in (
      λ gives. subst (λ (now : ModuleContent). TargetGives now input go bound outcome) (sym is.rest) (keeps.0 (drops.0 gives)),
      λ gives. drops.1 (keeps.1 (subst (λ (now : ModuleContent). TargetGives now input go bound outcome) is.rest gives)),
    )

pub rewriting_is_target : RewritingIsTarget
rewriting_is_target content after source is =
    subst IsTargetModule (sym is.rest) (rewritten_is_target is.reached (reached_source content is.reached source is.drops))

pub rewriting_is_verified : RewritingIsVerified
rewriting_is_verified content after source is =
    subst IsVerified (sym is.rest) (source_is_verified is.reached (reached_source content is.reached source is.drops))

-- ---- there is one

pub source_is_rewritten : SourceIsRewritten
source_is_rewritten content source =
    let left = unreached_can_be_dropped content source in
    (rewritten_source left.0, record { reached = left.0; drops = left.1; rest = refl })

pub few_or_many : FewOrMany
few_or_many content source =
    let left = unreached_can_be_dropped content source in
    elim (cases_lt 4194304 (relocates_in left.0)) [
      | inl above ↦ inr (record { reached = left.0; drops = left.1; many = above })
      | inr within ↦ inl (record { reached = left.0; drops = left.1; few = within })
    ]

pub few_are_not_many : FewAreNotMany
few_are_not_many content few many =
    let same = one_reached content few.reached many.reached few.drops many.drops in
    let within : relocates_in many.reached ≤ 4194304 = subst (λ (reached : ModuleContent). relocates_in reached ≤ 4194304) same few.few in
    let above = many.many in
    absurd (omega arith)

pub few_unless_many : (content : ModuleContent) → IsSourceModule content → ¬ HasManyRelocates content → HasFewRelocates content
few_unless_many content source not_many = elim (few_or_many content source) [ inl few ↦ few | inr many ↦ absurd (not_many many) ]
