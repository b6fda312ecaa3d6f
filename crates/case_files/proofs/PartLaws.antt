-- Lines that open a part, and where a part's body ends.
use Rattle.std.proofs.Common.{◌≡◌, ◌≢◌, ℕ, ◌+◌, ◌<◌, ◌==◌, Bool, true, false, List, [], ◌∷◌, map, take, drop, length, get_or, refl, sym, ap, ◌∙◌, arith, Some, None, zero, suc}
use Rattle.std.specs.Prelude.{is_none, slice_index, if◌then◌else◌}
use Rattle.std.specs.List.{prefix_len}
use Rattle.std.proofs.lemmas.Bool.{eqb-true}
use Rattle.std.proofs.lemmas.List.{take-map}
use Rattle.sp_text.specs.Lines.{NumberedLine}
use Rattle.case_files.specs.Files.{shown_line, head_of, body_of}
use Rattle.case_files.specs.declared.lines.CaseLine.{CaseLine}

-- whether a line belongs to the body before it
abbrev stays : NumberedLine → Bool
stays line = is_none (head_of line.bytes)

opened : (bytes : List ℕ) → (slice_index bytes 0 == 61) ≡ true → is_none (head_of bytes) ≡ false
opened [] is = absurd (let no : false ≡ true = is in cc)
opened (byte ∷ bytes) is = rw is refl

none_more : (lines : List CaseLine) (n : ℕ) → n < length lines → (line : CaseLine) → (slice_index (get_or lines n line).text.now 0 == 61) ≡ true
    → prefix_len stays (map shown_line (drop n lines)) ≡ 0
none_more [] n within line is = omega arith
none_more (first ∷ lines) zero within line is = rw (opened first.text.now is) refl
none_more (first ∷ lines) (suc n) within line is = none_more lines n (omega (arith, within)) line is

-- the body ends before the first line that opens a part
pub body_ends : (lines : List CaseLine) (n : ℕ) (line : CaseLine) → n < length lines → (slice_index (get_or lines n line).text.now 0 == 61) ≡ true
    → prefix_len stays (map shown_line lines) ≡ n + prefix_len stays (map shown_line (drop n lines)) → map shown_line (take n lines) ≡ body_of (map shown_line lines)
body_ends lines n line within is before =
    let all : prefix_len stays (map shown_line lines) ≡ n = omega (arith, before, none_more lines n within line is) in
    sym (take-map shown_line n lines) ∙ sym (ap (λ k. take k (map shown_line lines)) all)

-- a text that doesn't begin with the sign has no head
pub head_of-other : (bytes : List ℕ) → ((rest : List ℕ) → bytes ≢ 61 ∷ rest) → head_of bytes ≡ None
head_of-other [] other = refl
head_of-other (byte ∷ bytes) other = by (byte == 61) refl
  where
    by : (b : Bool) → (byte == 61) ≡ b → (if b then Some bytes else None) ≡ None
    by true is = absurd (other bytes (ap (λ one. one ∷ bytes) (eqb-true byte 61 is)))
    by false is = refl
