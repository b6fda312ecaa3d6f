-- Worked lines with bundles.
use Rattle.std.proofs.Common.{◌≡◌, refl, [], ◌∷◌}
use Rattle.std.specs.Prelude.{codes, Some, None}
use Rattle.sp_text.specs.Tokens.{tokens, tokens_after, front_of, longest_front, kind_of}
use Rattle.line_tokens.specs.Numbers.{decimal_from}
use Rattle.line_parts.specs.Types as types
use Rattle.line_parts.specs.Gives.{after, one_at, one_noted_at}
use Rattle.line_parts.specs.Drops.{past_all, past_at_most}
use Rattle.line_parts.specs.Parts.{local, addrspace_at, pointer_at, spelled_type_at, allowed_type_at}
use Rattle.line_parts.specs.Lists.{at_most_at, listed_at, list_to, called_at}
use Rattle.line_parts.specs.Groups.{zero_at, closing_at, handed_at}
use Rattle.line_parts.specs.Bundles.{kept_entry_at, live_entry_at, bundle_at, bracketed_at, deopt_at, live_behind_at, some_bundles_at, bundles_at}
use Rattle.line_forms.specs.declared.forms.Form.TheVariants as forms
use Rattle.line_forms.specs.Slots.{name, ty, called, handed, deopt, bundles, part, parse}
use Rattle.line_forms.specs.Forms.{fit, point_end}
use Rattle.line_forms.specs.Seen.{of_form, line_at}

pub a_call_keeps : line_at forms.VoidCall (tokens (codes "call void @f() #0 [ \"deopt\"(i64 %x) ], !a !1"))
    ≡ Some (of_form forms.VoidCall (called (codes "f") [] ∷ deopt ((local (codes "x"), types.Int 64) ∷ []) ∷ []), [])
unfolding tokens tokens_after front_of longest_front kind_of decimal_from after one_at one_noted_at past_all past_at_most spelled_type_at allowed_type_at at_most_at listed_at list_to called_at kept_entry_at bundle_at bracketed_at deopt_at part parse fit line_at
a_call_keeps = refl

pub a_result_keeps_nothing : line_at forms.ValueCall (tokens (codes "%y = call i64 @f(), !a !1"))
    ≡ Some (of_form forms.ValueCall (name (codes "y") ∷ ty (types.Int 64) ∷ called (codes "f") [] ∷ deopt [] ∷ []), [])
unfolding tokens tokens_after front_of longest_front kind_of decimal_from after one_at one_noted_at past_all past_at_most spelled_type_at allowed_type_at at_most_at listed_at list_to called_at deopt_at part parse fit line_at
a_result_keeps_nothing = refl

pub brackets_say_something : line_at forms.VoidCall (tokens (codes "call void @f() [ ]")) ≡ None
unfolding tokens tokens_after front_of longest_front kind_of after one_at one_noted_at past_all past_at_most list_to called_at bundle_at bracketed_at deopt_at part parse fit line_at
brackets_say_something = refl

pub a_statepoint_has_both : parse point_end (tokens (codes ", i32 0, i32 0) [ \"deopt\"(i64 %x), \"gc-live\"(ptr addrspace(1) %p) ]"))
    ≡ Some (handed [] ∷ bundles ((local (codes "x"), types.Int 64) ∷ []) (local (codes "p") ∷ []) ∷ [], [])
unfolding tokens tokens_after front_of longest_front kind_of decimal_from after one_at one_noted_at past_all past_at_most addrspace_at pointer_at spelled_type_at allowed_type_at at_most_at listed_at list_to zero_at closing_at handed_at kept_entry_at live_entry_at bundle_at bracketed_at live_behind_at some_bundles_at bundles_at part parse
a_statepoint_has_both = refl
