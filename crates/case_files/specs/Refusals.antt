-- Why a file of cases is refused before its parts are looked at.
use Rattle.std.specs.Prelude.{◌≡◌, ℕ, List, ⊤}
use Rattle.std.specs.Prelude.{Any, IsUtf8}
use Rattle.sp_text.specs.Lines.{NumberedLine}
use Rattle.case_files.specs.declared.refusals.Refusal.{Refusal}
use Rattle.case_files.specs.declared.refusals.Refusal.TheVariants.{NotText, Head, Cells, Words, Memory}

-- the line with this number isn't UTF-8
abbrev pub IsLineRefusal : ℕ → List ℕ → Refusal → Type 0
IsLineRefusal number bytes refusal = (refusal ≡ NotText number) × (¬ (IsUtf8 bytes))

-- of these lines the one that is named isn't UTF-8, or memory was lacking
abbrev pub IsCause : List NumberedLine → Refusal → Type 0
IsCause lines (NotText number) = Any (λ line. (line.number ≡ number) × (¬ (IsUtf8 line.bytes))) lines
IsCause lines (Head _) = ⊥
IsCause lines (Cells _) = ⊥
IsCause lines (Words _) = ⊥
IsCause lines Memory = ⊤
