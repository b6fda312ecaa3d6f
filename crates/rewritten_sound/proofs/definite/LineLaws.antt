-- The lines of a function, as the target meaning numbers them: which instruction each is, and which value it gives.
use Rattle.std.proofs.Common.{◌≡◌, ℕ, ◌<◌, Bool, true, false, if◌then◌else◌, [], length, refl, sym, ap, ◌∙◌}
use Rattle.std.specs.Prelude.{Option, Some, None, is_some, slice_get, slice_index}
use Rattle.std.proofs.lemmas.Bool.{eq-eqb, false≢true}
use Rattle.list_laws.proofs.Places.{get_some}
use Rattle.ir_ast.specs.Blocks.{BasicBlock}
use Rattle.ir_ast.specs.Funcs.{Function}
use Rattle.ir_ast.specs.Faults.GroupShape.{number_at}
use Rattle.ir_cfg.specs.DefiniteUses.{Defines, text_place}
use Rattle.object_meaning.specs.Lines.{Line, registers_of}
use Rattle.rewriting_forms.specs.Numbered.{gives, is_given, lines_at}
use Rattle.base_definite.proofs.LinePlaces.{line_forth, line_from, lines_as, writes_own}
use Rattle.object_meaning.proofs.LineLaws.{plain_count}
use Rattle.object_meaning.proofs.GivenLaws.{has_result}

module _ (func : Function) where
  pub lines_length : (b : ℕ) (block : BasicBlock) → slice_get func.blocks b ≡ Some block → length (lines_at func b) ≡ length block.insts
  lines_length b block found = ap length (lines_as func b (Some block) found) ∙ plain_count (slice_index (registers_of func) b) block.insts

  pub defines_given : (v b k : ℕ) → Defines func v b k → (line : Line) × (slice_get (lines_at func b) k ≡ Some line) × (line.to ≡ Some v)
  defines_given v b k defines =
      let one = line_forth func b k defines.inst defines.stands in
      let from = line_from func b k one.0 one.1 in
      let named : is_some (one.0).inst.result ≡ true = ap has_result one.2 ∙ defines.named in
      (one.0, one.1, from.to ∙ (ap (λ (t : Bool). if t then Some (number_at func (text_place func b k)) else None) named ∙ ap (λ n. Some n) defines.numbered))

  pub given_defines : (v b k : ℕ) (line : Line) → slice_get (lines_at func b) k ≡ Some line → line.to ≡ Some v → Defines func v b k
  given_defines v b k line at to = writes_own func b k line (line_from func b k line at) v to

  -- what a line gives, the instruction there defines
  pub defines_gives : (v b k : ℕ) (line : Line) → slice_get (lines_at func b) k ≡ Some line → Defines func v b k → gives line v ≡ true
  defines_gives v b k line at defines =
      let one = defines_given v b k defines in
      let both : Some one.0 ≡ Some line = sym one.1 ∙ at in
      let same : one.0 ≡ line = cc in
      ap (λ (to : Option ℕ). is_given to v) (sym (ap (λ (l : Line). l.to) same) ∙ one.2) ∙ eq-eqb v v refl

  pub gives_defines : (v b k : ℕ) (line : Line) → slice_get (lines_at func b) k ≡ Some line → gives line v ≡ false → Defines func v b k → ⊥
  gives_defines v b k line at none defines = false≢true (sym none ∙ defines_gives v b k line at defines)

  pub some_line : (b k : ℕ) → k < length (lines_at func b) → (line : Line) × (slice_get (lines_at func b) k ≡ Some line)
  some_line b k below = get_some (lines_at func b) k below
