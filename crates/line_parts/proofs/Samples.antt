-- Worked bundles.
use Rattle.std.proofs.Common.{◌≡◌, refl, ℕ, true, [], ◌∷◌}
use Rattle.std.specs.Prelude.{codes, Some, None}
use Rattle.sp_text.specs.Tokens.{tokens, tokens_after, front_of, longest_front, kind_of, tok, over, note}
use Rattle.sp_text.specs.declared.tokens.Kind.TheVariants.{Punct, Bang}
use Rattle.line_tokens.specs.Numbers.{decimal_from}
use Rattle.line_parts.specs.Types as types
use Rattle.line_parts.specs.Gives.{after, one_at, one_noted_at}
use Rattle.line_parts.specs.Parts.{Val, local, number, truth, null, addrspace_at, pointer_at, spelled_type_at, allowed_type_at}
use Rattle.line_parts.specs.Lists.{at_most_at, listed_at, list_to}
use Rattle.line_parts.specs.Bundles.{kept_entry_at, live_entry_at, bundle_at, bracketed_at, deopt_at, live_behind_at, some_bundles_at, bundles_at}

abbrev minus : ℕ → Val
minus magnitude = number (record { negative = true; magnitude = magnitude })

pub a_call_keeps : deopt_at (tokens (codes "[ \"deopt\"(i64 %x, ptr addrspace(1) null, i1 true, i32 -5) ], !dbg !1")) ≡ Some ((local (codes "x"), types.Int 64) ∷ (null, types.Managed) ∷ (truth true, types.Int 1) ∷ (minus 5, types.Int 32) ∷ [], tok Punct (codes ",") ∷ tok Bang (codes "!dbg") ∷ tok Bang (codes "!1") ∷ [])
unfolding tokens tokens_after front_of longest_front kind_of note decimal_from after one_at one_noted_at addrspace_at pointer_at spelled_type_at allowed_type_at at_most_at listed_at list_to kept_entry_at live_entry_at bundle_at bracketed_at deopt_at
a_call_keeps = refl

pub keeps_nothing : deopt_at (tokens (codes "[ \"deopt\"() ]")) ≡ Some ([], [])
unfolding tokens tokens_after front_of longest_front kind_of note decimal_from after one_at one_noted_at addrspace_at pointer_at spelled_type_at allowed_type_at at_most_at listed_at list_to kept_entry_at live_entry_at bundle_at bracketed_at deopt_at
keeps_nothing = refl

pub has_no_bundle : deopt_at (tokens (codes ", !dbg !1")) ≡ Some ([], tok Punct (codes ",") ∷ tok Bang (codes "!dbg") ∷ tok Bang (codes "!1") ∷ [])
unfolding tokens tokens_after front_of longest_front kind_of note decimal_from after one_at one_noted_at addrspace_at pointer_at spelled_type_at allowed_type_at at_most_at listed_at list_to kept_entry_at live_entry_at bundle_at bracketed_at deopt_at
has_no_bundle = refl

pub brackets_alone : deopt_at (tokens (codes "[ ]")) ≡ None
unfolding tokens tokens_after front_of longest_front kind_of note decimal_from after one_at one_noted_at addrspace_at pointer_at spelled_type_at allowed_type_at at_most_at listed_at list_to kept_entry_at live_entry_at bundle_at bracketed_at deopt_at
brackets_alone = refl

pub kept_twice : deopt_at (tokens (codes "[ \"deopt\"(i64 1), \"deopt\"(i64 2) ]")) ≡ None
unfolding tokens tokens_after front_of longest_front kind_of note decimal_from after one_at one_noted_at addrspace_at pointer_at spelled_type_at allowed_type_at at_most_at listed_at list_to kept_entry_at live_entry_at bundle_at bracketed_at deopt_at
kept_twice = refl

pub lives_in_a_call : deopt_at (tokens (codes "[ \"gc-live\"(ptr addrspace(1) %p) ]")) ≡ None
unfolding tokens tokens_after front_of longest_front kind_of note decimal_from after one_at one_noted_at addrspace_at pointer_at spelled_type_at allowed_type_at at_most_at listed_at list_to kept_entry_at live_entry_at bundle_at bracketed_at deopt_at
lives_in_a_call = refl

pub attributed : deopt_at (tokens (codes "[ \"deopt\"(i64 noundef %x) ]")) ≡ None
unfolding tokens tokens_after front_of longest_front kind_of note decimal_from after one_at one_noted_at addrspace_at pointer_at spelled_type_at allowed_type_at at_most_at listed_at list_to kept_entry_at live_entry_at bundle_at bracketed_at deopt_at
attributed = refl

pub a_function_kept : deopt_at (tokens (codes "[ \"deopt\"(ptr @f) ]")) ≡ None
unfolding tokens tokens_after front_of longest_front kind_of note decimal_from after one_at one_noted_at addrspace_at pointer_at spelled_type_at allowed_type_at at_most_at listed_at list_to kept_entry_at live_entry_at bundle_at bracketed_at deopt_at
a_function_kept = refl

pub notes_a_width : deopt_at (tokens (codes "[ \"deopt\"(i65 %x) ]")) ≡ Some ((local (codes "x"), types.Int 1) ∷ [], over ∷ [])
unfolding tokens tokens_after front_of longest_front kind_of note decimal_from after one_at one_noted_at addrspace_at pointer_at spelled_type_at allowed_type_at at_most_at listed_at list_to kept_entry_at live_entry_at bundle_at bracketed_at deopt_at
notes_a_width = refl

pub a_statepoint_has_both : bundles_at (tokens (codes "[ \"deopt\"(i64 %x), \"gc-live\"(ptr addrspace(1) %p, ptr addrspace(1) null) ]")) ≡ Some (((local (codes "x"), types.Int 64) ∷ [], local (codes "p") ∷ null ∷ []), [])
unfolding tokens tokens_after front_of longest_front kind_of note decimal_from after one_at one_noted_at addrspace_at pointer_at spelled_type_at allowed_type_at at_most_at listed_at list_to kept_entry_at live_entry_at bundle_at bracketed_at live_behind_at some_bundles_at bundles_at
a_statepoint_has_both = refl

pub has_deopt_alone : bundles_at (tokens (codes "[ \"deopt\"(i64 %x) ]")) ≡ Some (((local (codes "x"), types.Int 64) ∷ [], []), [])
unfolding tokens tokens_after front_of longest_front kind_of note decimal_from after one_at one_noted_at addrspace_at pointer_at spelled_type_at allowed_type_at at_most_at listed_at list_to kept_entry_at live_entry_at bundle_at bracketed_at live_behind_at some_bundles_at bundles_at
has_deopt_alone = refl

pub has_live_alone : bundles_at (tokens (codes "[ \"gc-live\"(ptr addrspace(1) %p) ]")) ≡ Some (([], local (codes "p") ∷ []), [])
unfolding tokens tokens_after front_of longest_front kind_of note decimal_from after one_at one_noted_at addrspace_at pointer_at spelled_type_at allowed_type_at at_most_at listed_at list_to kept_entry_at live_entry_at bundle_at bracketed_at live_behind_at some_bundles_at bundles_at
has_live_alone = refl

pub has_empty_ones : bundles_at (tokens (codes "[ \"deopt\"(), \"gc-live\"() ]")) ≡ Some (([], []), [])
unfolding tokens tokens_after front_of longest_front kind_of note decimal_from after one_at one_noted_at addrspace_at pointer_at spelled_type_at allowed_type_at at_most_at listed_at list_to kept_entry_at live_entry_at bundle_at bracketed_at live_behind_at some_bundles_at bundles_at
has_empty_ones = refl

pub has_neither : bundles_at (tokens (codes "")) ≡ Some (([], []), [])
unfolding tokens tokens_after front_of longest_front kind_of note decimal_from after one_at one_noted_at addrspace_at pointer_at spelled_type_at allowed_type_at at_most_at listed_at list_to kept_entry_at live_entry_at bundle_at bracketed_at live_behind_at some_bundles_at bundles_at
has_neither = refl

pub statepoint_brackets_alone : bundles_at (tokens (codes "[ ]")) ≡ None
unfolding tokens tokens_after front_of longest_front kind_of note decimal_from after one_at one_noted_at addrspace_at pointer_at spelled_type_at allowed_type_at at_most_at listed_at list_to kept_entry_at live_entry_at bundle_at bracketed_at live_behind_at some_bundles_at bundles_at
statepoint_brackets_alone = refl

pub live_first : bundles_at (tokens (codes "[ \"gc-live\"(ptr addrspace(1) %p), \"deopt\"(i64 %x) ]")) ≡ None
unfolding tokens tokens_after front_of longest_front kind_of note decimal_from after one_at one_noted_at addrspace_at pointer_at spelled_type_at allowed_type_at at_most_at listed_at list_to kept_entry_at live_entry_at bundle_at bracketed_at live_behind_at some_bundles_at bundles_at
live_first = refl

pub kept_twice_there : bundles_at (tokens (codes "[ \"deopt\"(i64 %x), \"deopt\"(i64 %x) ]")) ≡ None
unfolding tokens tokens_after front_of longest_front kind_of note decimal_from after one_at one_noted_at addrspace_at pointer_at spelled_type_at allowed_type_at at_most_at listed_at list_to kept_entry_at live_entry_at bundle_at bracketed_at live_behind_at some_bundles_at bundles_at
kept_twice_there = refl
