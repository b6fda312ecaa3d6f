-- What the passes over the functions of a module give together.
use Rattle.std.proofs.Common.{◌≡◌, ◌<◌, ◌≤◌, List, [], ◌∷◌, map, refl, sym, ap, subst, ◌∙◌}
use Rattle.std.specs.Prelude.{sum}
use Rattle.std.specs.List.{All}
use Rattle.std.proofs.lemmas.List.Elements.{All-nil, All-cons, All-head, All-tail}
use Rattle.std.proofs.lemmas.Simd.{map-map}
use Rattle.ir_ast.specs.Funcs.{Function}
use Rattle.ir_ast.specs.Layouts.{ObjectLayout}
use Rattle.ir_ast.specs.Modules.{ModuleContent}
use Rattle.ir_ast.specs.declared.modules.Form.TheVariants.{Rewritten}
use Rattle.ir_cfg.specs.SourceModules.{IsSourceModule}
use Rattle.ir_cfg.specs.Unreached.{ModuleDropsUnreached}
use Rattle.base_forms.specs.Polls.{placed}
use Rattle.poll_place.specs.Room.{HasFewLines}
use Rattle.rewrite_passes.specs.Before.{BeforeGroups, CanBeMade, CanBegin, CanHaveGroups, made_of, relocates_of, rewritten_of}
use Rattle.rewritten_sound.specs.Definite.{rewritten_source}
use Rattle.sp_rewrite.specs.Relocates.{HasFewRelocates, HasManyRelocates, relocates_in}
use Rattle.sp_rewrite.specs.Statements.{IsRewritten}
use Rattle.sp_rewrite.proofs.MakingLaws.{functions_are_ready}
use Rattle.sp_rewrite.proofs.RewrittenLaws.{rewriting_is_by_function}

both : (funcs : List Function) → All HasFewLines funcs → All CanBeMade (map placed funcs) → All CanBegin funcs
both [] polls bases = All-nil CanBegin
both (func ∷ funcs) polls bases =
    All-cons CanBegin func funcs
    (record { polls = All-head HasFewLines func funcs polls; bases = All-head CanBeMade (placed func) (map placed funcs) bases })
    (both funcs (All-tail HasFewLines func funcs polls) (All-tail CanBeMade (placed func) (map placed funcs) bases))

module _ (content reached : ModuleContent) (drops : ModuleDropsUnreached content reached) where
  -- polls can be placed in each function, and then bases and checks put in
  pub can_begin : IsSourceModule content → (funcs : List Function) → funcs ≡ reached.funcs → All CanBegin funcs
  can_begin source funcs funcs_are =
      let ready = functions_are_ready content reached source drops in
      subst (All CanBegin) (sym funcs_are) (both reached.funcs ready.polls ready.bases)

  -- what is made of the functions can have groups
  pub can_have_groups : IsSourceModule content → (funcs : List Function) (made : List BeforeGroups) → funcs ≡ reached.funcs → made ≡ map (λ func. made_of (placed func)) funcs
      → All CanHaveGroups made
  can_have_groups source funcs made funcs_are made_are =
      subst (All CanHaveGroups) (sym (made_are ∙ ap (map (λ func. made_of (placed func))) funcs_are)) (functions_are_ready content reached source drops).groups

  relocates_same : (funcs : List Function) → funcs ≡ reached.funcs → sum (map (λ func. relocates_of (placed func)) funcs) ≡ relocates_in reached
  relocates_same funcs funcs_are = ap (λ (all : List Function). sum (map (λ func. relocates_of (placed func)) all)) funcs_are

  pub few_relocates : (funcs : List Function) → funcs ≡ reached.funcs → sum (map (λ func. relocates_of (placed func)) funcs) ≤ 4194304 → HasFewRelocates content
  few_relocates funcs funcs_are few = record { reached = reached; drops = drops; few = subst (λ n. n ≤ 4194304) (relocates_same funcs funcs_are) few }

  pub many_relocates : (funcs : List Function) → funcs ≡ reached.funcs → 4194304 < sum (map (λ func. relocates_of (placed func)) funcs) → HasManyRelocates content
  many_relocates funcs funcs_are many = record { reached = reached; drops = drops; many = subst (λ n. 4194304 < n) (relocates_same funcs funcs_are) many }

  functions_are : (funcs : List Function) (made : List BeforeGroups) → funcs ≡ reached.funcs → made ≡ map (λ func. made_of (placed func)) funcs
      → map rewritten_of made ≡ (rewritten_source reached).funcs
  functions_are funcs made funcs_are made_are =
      let one : IsRewritten content (rewritten_source reached) = record { reached = reached; drops = drops; rest = refl } in
      ap (map rewritten_of) (made_are ∙ ap (map (λ func. made_of (placed func))) funcs_are)
      ∙ map-map rewritten_of (λ func. made_of (placed func)) reached.funcs
      ∙ sym (rewriting_is_by_function content (rewritten_source reached) one)

  pub is_rewritten : (funcs after : List Function) (made : List BeforeGroups) (layouts : List ObjectLayout) (whole : ModuleContent)
      → funcs ≡ reached.funcs → made ≡ map (λ func. made_of (placed func)) funcs → after ≡ map rewritten_of made → layouts ≡ reached.layouts
      → whole ≡ record { layouts = layouts; funcs = after; form = Rewritten } → IsRewritten content whole
  is_rewritten funcs after made layouts whole funcs_are made_are after_are layouts_are whole_is = record {
    reached = reached;
    drops = drops;
    rest = whole_is
        ∙ ap (λ (layouts : List ObjectLayout). (let now : ModuleContent = record { layouts = layouts; funcs = after; form = Rewritten } in now)) layouts_are
        ∙ ap (λ (after : List Function). (let now : ModuleContent = record { layouts = reached.layouts; funcs = after; form = Rewritten } in now)) (after_are ∙ functions_are funcs made funcs_are made_are);
  }
