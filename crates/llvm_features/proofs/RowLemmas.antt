-- Rows: whether one has a byte that begins no token, and what its first token tells.
use Rattle.std.proofs.Common.{◌≡◌, refl, ap, ◌∙◌, ℕ, Bool, true, false, List, [], ◌∷◌, ◌++◌, map, Some}
use Rattle.std.specs.Prelude.{Option, None, is_some, if◌then◌else◌}
use Rattle.std.specs.List.{list_any}
use Rattle.sp_text.specs.Tokens.{Tok, bad, tokens}
use Rattle.sp_text.specs.Labels.{label_of}
use Rattle.sp_text.specs.Lines.{NumberedLine}
use Rattle.sp_text.specs.TokenAt.{seen_token}
use Rattle.sp_text.specs.declared.tokens.Token.{Token}
use Rattle.llvm_features.specs.declared.features.Feature.{Feature}
use Rattle.llvm_features.specs.declared.features.Feature.TheVariants.{Spelling}
use Rattle.llvm_features.specs.Rows.{row_of}
use Rattle.llvm_features.specs.Features.{is_bad, tells, body_tells, line_tells, reason_at, told_by}

pub has_no_bad : (tokens : List Token) → list_any is_bad (map seen_token tokens) ≡ false
has_no_bad [] = refl
has_no_bad (t ∷ ts) = has_no_bad ts

pub ends_badly : (tokens : List Token) → list_any is_bad (map seen_token tokens ++ bad ∷ []) ≡ true
ends_badly [] = refl
ends_badly (t ∷ ts) = ends_badly ts

pub line_end : (whole : Bool) → line_tells (row_of [] whole) ≡ body_tells (row_of [] whole)
unfolding line_tells
line_end true = refl
line_end false = refl

-- where a line tells nothing it is no reason
told_if : (label : Bool) (line : ℕ) → (if label then [] else reason_at line None) ≡ []
told_if true line = refl
told_if false line = refl

pub nothing_told : (line : NumberedLine) (row : List Tok) → tokens line.bytes ≡ row → line_tells row ≡ None → told_by line ≡ []
nothing_told line row same none =
    ap (λ (it : List Tok). if is_some (label_of line.bytes) then [] else reason_at line.number (line_tells it)) same
    ∙ ap (λ (it : Option Feature). if is_some (label_of line.bytes) then [] else reason_at line.number it) none
    ∙ told_if (is_some (label_of line.bytes)) line.number

pub end_tells : (whole : Bool) → body_tells (row_of [] whole) ≡ (if whole then None else Some Spelling)
unfolding tells
end_tells true = refl
end_tells false = refl
