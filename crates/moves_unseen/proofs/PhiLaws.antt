-- Registers and words behind the phis of a block, which take effect together.
use Rattle.std.proofs.Common.{◌≡◌, ℕ, zero, suc, ◌+◌, ◌<◌, ◌==◌, Bool, true, false, List, [], ◌∷◌, length, get_or, set, map, take, refl, sym, ap, ◌∙◌, subst, arith, Option, Some, None}
use Rattle.std.specs.Prelude.{slice_get, is_some, if◌then◌else◌}
use Rattle.std.specs.List.{position}
use Rattle.std.specs.Option.{option_map_or}
use Rattle.std.proofs.lemmas.Bool.{eqb-true}
use Rattle.std.proofs.lemmas.Bool.Decides.{nat_tests}
use Rattle.std.proofs.lemmas.List.{get_or-set_other, get_or-set_same, length-set}
use Rattle.ir_ast.specs.declared.ops.Operand.TheVariants as operands
use Rattle.ir_ast.specs.Faults.PhiEdges.{is_phi}
use Rattle.ir_ast.specs.Insts.{Instruction}
use Rattle.ir_ast.specs.Objects.{Datum, number}
use Rattle.object_meaning.specs.Jumps.{incoming, phi_count, phi_write}
use Rattle.object_meaning.specs.Lines.{Line}
use Rattle.object_meaning.specs.Registers.{nothing, operand, value, number_in, pointer_in, put, put_all}
use Rattle.object_meaning.specs.TargetRuns.{plain_lines}
use Rattle.object_meaning.proofs.RegisterLaws.{put_length}
use Rattle.pair_facts.specs.Lines.{gives, operand_at}
use Rattle.pair_facts.specs.Pairs.{value_along}
use Rattle.pair_facts.specs.Pairs.{incoming as taken}
use Rattle.machine_meaning.specs.Words.{worded, worded_operand}
use Rattle.machine_meaning.specs.Relations.{word_in}
use Rattle.moves_unseen.proofs.PassLaws.{put_words}
use Rattle.moves_unseen.proofs.RegisterLaws.{word_of_value}
use Rattle.moves_unseen.proofs.SelectSteps.{worded_at}
use Rattle.moves_unseen.proofs.ValueLaws.{value_at}

-- ---- writes of lines, one after another

abbrev pub put_each : {A : Type 0} → (Line → A) → List Line → List A → List A
put_each made [] held = held
put_each made (phi ∷ phis) held = put_each made phis (put phi.to (made phi) held)

-- what a value is after them
abbrev pub picked : {A : Type 0} → (Line → A) → List Line → ℕ → A → A
picked made [] at old = old
picked made (phi ∷ phis) at old = if gives phi at then made phi else picked made phis at old

pub length_each : {A : Type 0} (made : Line → A) (phis : List Line) (held : List A) → length (put_each made phis held) ≡ length held
length_each made [] held = refl
length_each made (phi ∷ phis) held = length_each made phis (put phi.to (made phi) held) ∙ put_length phi.to (made phi) held

abbrev line_as : Bool → ℕ → Instruction → Line
line_as b next inst = record { to = if b then Some next else None; inst = inst }

-- values below the results of these lines stay
below_kept : {A : Type 0} (made : Line → A) (next : ℕ) (insts : List Instruction) (count : ℕ) (held : List A) (at : ℕ) (none : A) → at < next
    → get_or (put_each made (take count (plain_lines next insts)) held) at none ≡ get_or held at none
below_kept made next [] zero held at none below = refl
below_kept made next [] (suc count) held at none below = refl
below_kept made next (inst ∷ insts) zero held at none below = refl
below_kept {A} made next (inst ∷ insts) (suc count) held at none below =
    by (is_some inst.result) (λ further more lower. below_kept made further insts count more at none lower)
  where
    by : (b : Bool) → ((further : ℕ) (more : List A) → at < further → get_or (put_each made (take count (plain_lines further insts)) more) at none ≡ get_or more at none)
        → get_or (put_each made (take count (plain_lines (if b then next + 1 else next) insts)) (put (if b then Some next else None) (made (line_as b next inst)) held)) at none ≡ get_or held at none
    by true rest =
        rest (next + 1) (set held next (made (line_as true next inst))) (omega arith)
        ∙ get_or-set_other held next at (made (line_as true next inst)) none (λ same. omega arith)
    by false rest = rest next held below

-- each of these lines has its register
abbrev AreWithin : List Line → ℕ → Type 0
AreWithin phis count = (place : ℕ) (phi : Line) (to : ℕ) → slice_get phis place ≡ Some phi → phi.to ≡ Some to → to < count

-- a value is what the line that gives it made of it, or what it was
pub picked_is : {A : Type 0} (made : Line → A) (next : ℕ) (insts : List Instruction) (count : ℕ) (held : List A) (at : ℕ) (none old : A)
    → AreWithin (take count (plain_lines next insts)) (length held) → get_or held at none ≡ old
    → get_or (put_each made (take count (plain_lines next insts)) held) at none ≡ picked made (take count (plain_lines next insts)) at old
picked_is made next [] zero held at none old within same = same
picked_is made next [] (suc count) held at none old within same = same
picked_is made next (inst ∷ insts) zero held at none old within same = same
picked_is {A} made next (inst ∷ insts) (suc count) held at none old within same =
    by (is_some inst.result) within (λ further more inside kept. picked_is made further insts count more at none old inside kept)
  where
    own : (t : Bool) → (next == at) ≡ t → next < length held
        → ((at ≡ next → ⊥) → get_or (put_each made (take count (plain_lines (next + 1) insts)) (set held next (made (line_as true next inst)))) at none
        ≡ picked made (take count (plain_lines (next + 1) insts)) at old)
        → get_or (put_each made (take count (plain_lines (next + 1) insts)) (set held next (made (line_as true next inst)))) at none
        ≡ (if next == at then made (line_as true next inst) else picked made (take count (plain_lines (next + 1) insts)) at old)
    own true is lower rest =
        let here = eqb-true next at is in
        below_kept made (next + 1) insts count (set held next (made (line_as true next inst))) at none (omega arith)
        ∙ (ap (λ (k : ℕ). get_or (set held next (made (line_as true next inst))) k none) (sym here)
        ∙ (get_or-set_same held next (made (line_as true next inst)) none lower
        ∙ sym (ap (λ (t : Bool). if t then made (line_as true next inst) else picked made (take count (plain_lines (next + 1) insts)) at old) is)))
    own false is lower rest =
        rest (λ there. grind (arith, nat_tests))
        ∙ sym (ap (λ (t : Bool). if t then made (line_as true next inst) else picked made (take count (plain_lines (next + 1) insts)) at old) is)

    by : (b : Bool) → AreWithin (line_as b next inst ∷ take count (plain_lines (if b then next + 1 else next) insts)) (length held)
        → ((further : ℕ) (more : List A) → AreWithin (take count (plain_lines further insts)) (length more) → get_or more at none ≡ old
        → get_or (put_each made (take count (plain_lines further insts)) more) at none ≡ picked made (take count (plain_lines further insts)) at old)
        → get_or (put_each made (take count (plain_lines (if b then next + 1 else next) insts)) (put (if b then Some next else None) (made (line_as b next inst)) held)) at none
        ≡ (if gives (line_as b next inst) at then made (line_as b next inst) else picked made (take count (plain_lines (if b then next + 1 else next) insts)) at old)
    by false inside rest = rest next held (λ place phi to stands gives_to. inside (suc place) phi to stands gives_to) same
    by true inside rest =
        own (next == at) refl (inside 0 (line_as true next inst) next refl refl)
        (λ apart.
        rest (next + 1) (set held next (made (line_as true next inst)))
        (λ place phi to stands gives_to. subst (λ (n : ℕ). to < n) (sym (length-set held next (made (line_as true next inst)))) (inside (suc place) phi to stands gives_to))
        (get_or-set_other held next at (made (line_as true next inst)) none apart ∙ same))

-- ---- what phis make

taken_pointer : (from : ℕ) (registers : List Datum) (inst : Instruction) → pointer_in (incoming from registers inst) ≡ pointer_in (value registers (taken from inst))
taken_pointer from registers inst = by (position (λ label. label.0 == from) inst.labels)
  where
    by : (found : Option ℕ) → pointer_in (option_map_or (operand registers inst.operands) found nothing) ≡ pointer_in (value registers (option_map_or (λ place. operand_at inst.operands place) found operands.Null))
    by None = refl
    by (Some place) = ap pointer_in (value_at registers inst.operands place)

pub pointer_along : (from : ℕ) (registers : List Datum) (phis : List Line) (at : ℕ)
    → pointer_in (picked (λ phi. incoming from registers phi.inst) phis at (get_or registers at nothing)) ≡ pointer_in (value registers (value_along from phis at))
pointer_along from registers [] at = refl
pointer_along from registers (phi ∷ phis) at = by (gives phi at) (pointer_along from registers phis at)
  where
    by : (b : Bool) → pointer_in (picked (λ phi. incoming from registers phi.inst) phis at (get_or registers at nothing)) ≡ pointer_in (value registers (value_along from phis at))
        → pointer_in (if b then incoming from registers phi.inst else picked (λ phi. incoming from registers phi.inst) phis at (get_or registers at nothing))
        ≡ pointer_in (value registers (if b then taken from phi.inst else value_along from phis at))
    by true rest = taken_pointer from registers phi.inst
    by false rest = rest

pub word_along : (from : ℕ) (words : List ℕ) (phis : List Line) (at : ℕ)
    → picked (λ phi. word_in words (taken from phi.inst)) phis at (get_or words at 0) ≡ word_in words (value_along from phis at)
word_along from words [] at = sym (word_of_value words at)
word_along from words (phi ∷ phis) at = by (gives phi at) (word_along from words phis at)
  where
    by : (b : Bool) → picked (λ phi. word_in words (taken from phi.inst)) phis at (get_or words at 0) ≡ word_in words (value_along from phis at)
        → (if b then word_in words (taken from phi.inst) else picked (λ phi. word_in words (taken from phi.inst)) phis at (get_or words at 0))
        ≡ word_in words (if b then taken from phi.inst else value_along from phis at)
    by true rest = refl
    by false rest = rest

-- where all phis that give a value take the same number, both have the same one
pub number_along : (from : ℕ) (registers : List Datum) (words : List ℕ) (phis : List Line) (at : ℕ)
    → ((place : ℕ) (phi : Line) → slice_get phis place ≡ Some phi → gives phi at ≡ true → word_in words (taken from phi.inst) ≡ number_in (incoming from registers phi.inst))
    → get_or words at 0 ≡ number_in (get_or registers at nothing)
    → picked (λ phi. word_in words (taken from phi.inst)) phis at (get_or words at 0)
    ≡ number_in (picked (λ phi. incoming from registers phi.inst) phis at (get_or registers at nothing))
number_along from registers words [] at each same = same
number_along from registers words (phi ∷ phis) at each same =
    by (gives phi at) refl (number_along from registers words phis at (λ place other stands given. each (suc place) other stands given) same)
  where
    by : (b : Bool) → gives phi at ≡ b
        → picked (λ phi. word_in words (taken from phi.inst)) phis at (get_or words at 0)
        ≡ number_in (picked (λ phi. incoming from registers phi.inst) phis at (get_or registers at nothing))
        → (if b then word_in words (taken from phi.inst) else picked (λ phi. word_in words (taken from phi.inst)) phis at (get_or words at 0))
        ≡ number_in (if b then incoming from registers phi.inst else picked (λ phi. incoming from registers phi.inst) phis at (get_or registers at nothing))
    by true given rest = each 0 phi refl given
    by false given rest = rest

-- ---- both meanings put them so

pub put_all_each : (from : ℕ) (registers held : List Datum) (phis : List Line) → put_all (map (phi_write from registers) phis) held ≡ put_each (λ phi. incoming from registers phi.inst) phis held
put_all_each from registers held [] = refl
put_all_each from registers held (phi ∷ phis) = put_all_each from registers (put phi.to (incoming from registers phi.inst) held) phis

taken_word : (from : ℕ) (words : List ℕ) (phi : Line) → incoming from (map number words) (worded phi).inst ≡ number (word_in words (taken from phi.inst))
taken_word from words phi = by (position (λ label. label.0 == from) phi.inst.labels)
  where
    by : (found : Option ℕ) → option_map_or (operand (map number words) (map worded_operand phi.inst.operands)) found nothing
        ≡ number (word_in words (option_map_or (λ place. operand_at phi.inst.operands place) found operands.Null))
    by None = refl
    by (Some place) = worded_at words phi.inst.operands place

pub put_words_each : (from : ℕ) (words held : List ℕ) (phis : List Line)
    → put_all (map (phi_write from (map number words)) (map worded phis)) (map number held) ≡ map number (put_each (λ phi. word_in words (taken from phi.inst)) phis held)
put_words_each from words held [] = refl
put_words_each from words held (phi ∷ phis) =
    ap (λ (registers : List Datum). put_all (map (phi_write from (map number words)) (map worded phis)) registers)
    (ap (λ (d : Datum). put phi.to d (map number held)) (taken_word from words phi) ∙ put_words phi.to (word_in words (taken from phi.inst)) held)
    ∙ put_words_each from words (put phi.to (word_in words (taken from phi.inst)) held) phis

pub phis_worded : (lines : List Line) → phi_count (map worded lines) ≡ phi_count lines
phis_worded [] = refl
phis_worded (line ∷ lines) = ap (λ (n : ℕ). if is_phi line.inst.op then 1 + n else 0) (phis_worded lines)
