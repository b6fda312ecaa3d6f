-- The operand bundles of a call and of a statepoint (LLVM Language Reference, "Operand Bundles"): values that a frame keeps, and live entries.
use Rattle.std.specs.Prelude.{ℕ, Bool, false, List, [], Some, codes, if◌then◌else◌}
use Rattle.std.specs.Str.{bytes_eq}
use Rattle.sp_text.specs.Tokens.{Tok, tok}
use Rattle.sp_text.specs.declared.tokens.Kind.TheVariants as kinds
use Rattle.line_parts.specs.Types.{TypeWord}
use Rattle.line_parts.specs.Gives.{Found, after, one_at}
use Rattle.line_tokens.specs.Marks.{is_mark, stands, begins}
use Rattle.line_parts.specs.Parts.{Val, mark_at, value_at, allowed_type_at, is_value_type, is_managed}
use Rattle.line_parts.specs.Lists.{comma, list_to}

-- this quoted text, a bundle's tag
abbrev pub is_tag : List ℕ → Tok → Bool
is_tag text (tok kinds.Quoted bytes) = bytes_eq bytes text
is_tag text _ = false

abbrev pub is_deopt_tag : Tok → Bool
is_deopt_tag t = is_tag (codes "\"deopt\"") t

abbrev pub is_live_tag : Tok → Bool
is_live_tag t = is_tag (codes "\"gc-live\"") t

-- `T V`
unfoldable pub kept_entry_at : List Tok → Found (Val × TypeWord)
kept_entry_at ts = after (allowed_type_at is_value_type ts) (λ ty ts. after (value_at ts) (λ value ts. Some ((value, ty), ts)))

-- `P V`
unfoldable pub live_entry_at : List Tok → Found Val
live_entry_at ts = after (allowed_type_at is_managed ts) (λ _ ts. value_at ts)

-- a bundle: its tag, then its operands in parentheses
unfoldable pub bundle_at : {A : Type 0} → (Tok → Bool) → (List Tok → Found A) → List Tok → Found (List A)
bundle_at tag entry ts = after (one_at (stands tag) ts) (λ _ ts. after (mark_at (codes "(") ts) (λ _ ts.
    after (list_to entry (codes ")") ts) (λ entries ts. after (mark_at (codes ")") ts) (λ _ ts. Some (entries, ts)))))

-- `"deopt"(T V, ..)`
abbrev pub deopt_bundle_at : List Tok → Found (List (Val × TypeWord))
deopt_bundle_at ts = bundle_at is_deopt_tag kept_entry_at ts

-- `"gc-live"(P V, ..)`
abbrev pub live_bundle_at : List Tok → Found (List Val)
live_bundle_at ts = bundle_at is_live_tag live_entry_at ts

-- what stands in brackets
unfoldable pub bracketed_at : {A : Type 0} → (List Tok → Found A) → List Tok → Found A
bracketed_at inner ts = after (mark_at (codes "[") ts) (λ _ ts. after (inner ts) (λ said ts. after (mark_at (codes "]") ts) (λ _ ts. Some (said, ts))))

-- of a call, ` [ "deopt"(T V, ..) ]`: nothing is kept where no bracket begins
unfoldable pub deopt_at : List Tok → Found (List (Val × TypeWord))
deopt_at ts = if begins (is_mark (codes "[")) ts then bracketed_at deopt_bundle_at ts else Some ([], ts)

-- behind a "deopt" bundle: `, "gc-live"(P V, ..)`, which may lack
unfoldable pub live_behind_at : List Tok → Found (List Val)
live_behind_at ts = if comma ts then after (mark_at (codes ",") ts) (λ _ ts. live_bundle_at ts) else Some ([], ts)

-- one of the bundles of a statepoint, or both, "deopt" first
unfoldable pub some_bundles_at : List Tok → Found (List (Val × TypeWord) × List Val)
some_bundles_at ts =
    if begins is_deopt_tag ts then after (deopt_bundle_at ts) (λ kept ts. after (live_behind_at ts) (λ live ts. Some ((kept, live), ts)))
    else after (live_bundle_at ts) (λ live ts. Some (([], live), ts))

-- of a statepoint, ` [ "deopt"(T V, ..), "gc-live"(P V, ..) ]`: nothing is kept and nothing live where no bracket begins
unfoldable pub bundles_at : List Tok → Found (List (Val × TypeWord) × List Val)
bundles_at ts = if begins (is_mark (codes "[")) ts then bracketed_at some_bundles_at ts else Some (([], []), ts)
