-- The notes on a block, an instruction at a time.
use Rattle.std.proofs.Common.{◌≡◌, ◌∙◌, inl, inr, ℕ, zero, suc, ◌+◌, ◌<◌, ◌≤◌, cond, true, false, List, [], ◌∷◌, ◌++◌, Option, Some, refl, ap, sym, subst, slice_get, length, arith, add-one}
use Rattle.std.specs.Prelude.{slice_index}
use Rattle.std.specs.List.{prefix_len}
use Rattle.std.proofs.lemmas.Bool.{cases_lt}
use Rattle.std.proofs.lemmas.List.{length_push}
use Rattle.std.proofs.lemmas.Option.{get_or_from_slice_get}
use Rattle.list_laws.proofs.Places.{get_front, get_middle}
use Rattle.ir_ast.specs.Insts.{Instruction}
use Rattle.ir_ast.specs.Funcs.{Function}
use Rattle.ir_ast.specs.Faults.GroupShape.{is_statepoint}
use Rattle.ir_ast.specs.Faults.PhiEdges.{is_phi}
use Rattle.object_meaning.specs.Lines.{Line, following, registers_of, insts_in}
use Rattle.object_meaning.specs.TargetRuns.{plain_lines}
use Rattle.object_meaning.specs.Jumps.{phi_count}
use Rattle.pair_facts.specs.Lines.{lines_at, line_in, no_line, head_at, head_here}
use Rattle.pair_facts.specs.Segments.{start_at}
use Rattle.fact_tables.specs.Notes.{told, head_before, AreNoted}
use Rattle.fact_tables.proofs.GroupLemmas.{head_next}
use Rattle.object_meaning.proofs.LineLaws.{plain_at}

-- the instruction of a line
pub inst_at : (func : Function) (block place : ℕ) (inst : Instruction) → slice_get (insts_in func block) place ≡ Some inst
    → (line_in (lines_at func block) place).inst ≡ inst
inst_at func block place inst at =
    ap (λ (line : Line). line.inst)
    (get_or_from_slice_get (lines_at func block) place _ no_line (plain_at (slice_index (registers_of func) block) (insts_in func block) place inst at))

-- ---- lists of what was told

pub length-told : {A : Type 0} (at : ℕ → A) (count : ℕ) → length (told at count) ≡ count
length-told at zero = refl
length-told at (suc count) = length_push (told at count) (at count) ∙ ap (λ (n : ℕ). n + 1) (length-told at count) ∙ add-one count

pub told_at : {A : Type 0} (at : ℕ → A) (count place : ℕ) → place < count → slice_get (told at count) place ≡ Some (at place)
told_at at zero place below = absurd (omega arith)
told_at {A} at (suc count) place below = elim (cases_lt place count) [
  | inl less ↦ get_front (told at count) (at count ∷ []) place (at place) (told_at at count place less)
  | inr past ↦ (let same : place ≡ count = omega arith in
      let middle : slice_get (told at count ++ at count ∷ []) (length (told at count)) ≡ Some (at count) = get_middle (told at count) (at count) [] in
      subst (λ (k : ℕ). slice_get (told at count ++ at count ∷ []) k ≡ Some (at place)) (length-told at count ∙ sym same) (middle ∙ ap (λ (k : ℕ). Some (at k)) (sym same)))
]

-- ---- phis

phi_lines : (next : ℕ) (insts : List Instruction) → phi_count (plain_lines next insts) ≡ prefix_len (λ (inst : Instruction). is_phi inst.op) insts
phi_lines next [] = refl
phi_lines next (inst ∷ insts) = ap (λ (n : ℕ). cond (is_phi inst.op) (1 + n) 0) (phi_lines (following next inst) insts)

pub phis_of_lines : (func : Function) (block : ℕ) → phi_count (lines_at func block) ≡ prefix_len (λ (inst : Instruction). is_phi inst.op) (insts_in func block)
phis_of_lines func block = phi_lines (slice_index (registers_of func) block) (insts_in func block)

-- phis stand up to a place, where no phi stands or the list ends
pub prefix_is : (insts : List Instruction) (count : ℕ) → count ≤ length insts
    → ((k : ℕ) (inst : Instruction) → k < count → slice_get insts k ≡ Some inst → is_phi inst.op ≡ true)
    → ((inst : Instruction) → slice_get insts count ≡ Some inst → is_phi inst.op ≡ false)
    → prefix_len (λ (inst : Instruction). is_phi inst.op) insts ≡ count
prefix_is [] zero within phis stops = refl
prefix_is [] (suc count) within phis stops = absurd (omega arith)
prefix_is (inst ∷ insts) zero within phis stops = ap (λ b. cond b (1 + prefix_len (λ (inst : Instruction). is_phi inst.op) insts) 0) (stops inst refl)
prefix_is (inst ∷ insts) (suc count) within phis stops =
    ap (λ b. cond b (1 + prefix_len (λ (inst : Instruction). is_phi inst.op) insts) 0) (phis 0 inst (omega arith) refl)
    ∙ omega (arith, prefix_is insts count (omega arith) (λ k other below at. phis (suc k) other (omega arith) at) stops)

-- ---- an instruction more

pub noted_more : (func : Function) (block place start next : ℕ) (head found : Option ℕ) (starts starts_next : List ℕ) (heads heads_next : List (Option ℕ)) (inst : Instruction)
    → slice_get (insts_in func block) place ≡ Some inst
    → starts_next ≡ starts ++ start ∷ [] → found ≡ head_here inst.op place head → heads_next ≡ heads ++ found ∷ []
    → next ≡ cond (is_statepoint inst.op) (suc place) start
    → AreNoted (lines_at func block) place start head starts heads → AreNoted (lines_at func block) (place + 1) next found starts_next heads_next
noted_more func block place start next head found starts starts_next heads heads_next inst at starts_is found_is heads_is next_is noted =
    let lines = lines_at func block in
    let own = inst_at func block place inst at in
    let head_now : found ≡ head_at lines place = found_is ∙ ap (λ (h : Option ℕ). head_here inst.op place h) noted.head_is
    ∙ ap (λ (i : Instruction). head_here i.op place (head_before lines place)) (sym own) ∙ head_next lines place in
    let start_now : next ≡ start_at lines (suc place) = next_is ∙ ap (λ (n : ℕ). cond (is_statepoint inst.op) (suc place) n) noted.start_is
    ∙ ap (λ (i : Instruction). cond (is_statepoint i.op) (suc place) (start_at lines place)) (sym own) in
    subst (λ (n : ℕ). AreNoted lines n next found starts_next heads_next) (sym (add-one place)) (record {
      start_is = start_now;
      head_is = head_now;
      starts_are = starts_is ∙ ap (λ (n : ℕ). starts ++ n ∷ []) noted.start_is ∙ ap (λ (xs : List ℕ). xs ++ start_at lines place ∷ []) noted.starts_are;
      heads_are = heads_is ∙ ap (λ (h : Option ℕ). heads ++ h ∷ []) head_now ∙ ap (λ (xs : List (Option ℕ)). xs ++ head_at lines place ∷ []) noted.heads_are;
    })

pub noted_end : (lines : List Line) (place start : ℕ) (head : Option ℕ) (starts starts_next : List ℕ) (heads : List (Option ℕ)) → place ≡ length lines
    → starts_next ≡ starts ++ start ∷ [] → AreNoted lines place start head starts heads
    → (starts_next ≡ told (start_at lines) (suc (length lines))) × (heads ≡ told (head_at lines) (length lines))
noted_end lines place start head starts starts_next heads is pushed noted = (
  pushed ∙ ap (λ (n : ℕ). starts ++ n ∷ []) (noted.start_is ∙ ap (start_at lines) is)
      ∙ ap (λ (xs : List ℕ). xs ++ start_at lines (length lines) ∷ []) (noted.starts_are ∙ ap (told (start_at lines)) is),
  noted.heads_are ∙ ap (told (head_at lines)) is,
)
