-- Polls expand a function: each line stands behind its polls.
use Rattle.std.proofs.Common.{◌≡◌, ℕ, zero, suc, ◌+◌, ◌<◌, ◌≤◌, Bool, true, false, if◌then◌else◌, List, [], ◌∷◌, ◌++◌, length, take, drop, refl, sym, ap, ◌∙◌, ◌⊎◌, inl, inr, append_assoc, append-nil, arith}
use Rattle.std.specs.Prelude.{Option, Some, None, slice_get}
use Rattle.std.specs.List.{flat_map}
use Rattle.std.specs.Option.{option_map, option_map_or}
use Rattle.std.proofs.lemmas.Grind.{flat_map-append}
use Rattle.std.proofs.lemmas.List.{length-append}
use Rattle.std.proofs.lemmas.Option.{slice_get_within}
use Rattle.list_laws.proofs.Places.{get_some, split_at, get_middle, take_whole, take_front_of}
use Rattle.ir_ast.specs.Insts.{Instruction}
use Rattle.ir_ast.specs.Blocks.{BasicBlock}
use Rattle.ir_ast.specs.Funcs.{Function, instructions_of}
use Rattle.ir_cfg.specs.DefiniteUses.{Defines, Stands}
use Rattle.object_meaning.specs.Lines.{insts_in, retreats}
use Rattle.base_forms.specs.Polls.{front_poll, placed, placed_block, placed_from, poll_call, polled}
use Rattle.base_forms.proofs.PlacedLaws.{block_placed, results_placed, results_polled}
use Rattle.base_laws.proofs.PollLaws.{graph_placed}
use Rattle.base_definite.proofs.CutLaws.{number_cut, results_append, results_in, take_next}
use Rattle.base_definite.proofs.ExpandLaws.{Expands}

abbrev polls_of : ℕ → Instruction → List Instruction
polls_of number inst = if retreats number inst then poll_call ∷ [] else []

abbrev polled_all : ℕ → List Instruction → List Instruction
polled_all number insts = flat_map (polled number) insts

one_at_least : (number : ℕ) (inst : Instruction) → 0 < length (polled number inst)
one_at_least number inst = by (retreats number inst)
  where
    by : (b : Bool) → 0 < length ((if b then poll_call ∷ [] else []) ++ inst ∷ [])
    by true = omega arith
    by false = omega arith

take_placed : (start number : ℕ) (blocks : List BasicBlock) → take number (placed_from start blocks) ≡ placed_from start (take number blocks)
take_placed start zero blocks = refl
take_placed start (suc number) [] = refl
take_placed start (suc number) (block ∷ blocks) = ap (λ rest. placed_block start block ∷ rest) (take_placed (suc start) number blocks)

front_results : (number : ℕ) → results_in (front_poll number) ≡ 0
front_results zero = refl
front_results (suc number) = refl

polls_results : (number : ℕ) (inst : Instruction) → results_in (polls_of number inst) ≡ 0
polls_results number inst = by (retreats number inst)
  where
    by : (b : Bool) → results_in (if b then poll_call ∷ [] else []) ≡ 0
    by true = refl
    by false = refl

placed_at : (func : Function) (number : ℕ) (own : BasicBlock) → slice_get func.blocks number ≡ Some own → slice_get (placed func).blocks number ≡ Some (placed_block number own)
placed_at func number own found =
    let same : 0 + number ≡ number = omega arith in
    block_placed 0 number func.blocks ∙ (ap (option_map (placed_block (0 + number))) found ∙ ap (λ n. Some (placed_block n own)) same)

module _ (func : Function) (filled : (number : ℕ) (block : BasicBlock) → slice_get func.blocks number ≡ Some block → 0 < length block.insts) where
  offset : ℕ → ℕ → ℕ
  offset number zero = 0
  offset number (suc place) = length (front_poll number) + length (polled_all number (take (suc place) (insts_in func number)))

  insts_are : (number : ℕ) (block : BasicBlock) → slice_get func.blocks number ≡ Some block → insts_in func number ≡ block.insts
  insts_are number block found = ap (λ (here : Option BasicBlock). option_map_or (λ b. b.insts) here []) found

  further : (number place : ℕ) (insts : List Instruction) (inst : Instruction) → slice_get insts place ≡ Some inst
      → polled_all number (take (suc place) insts) ≡ polled_all number (take place insts) ++ (polls_of number inst ++ inst ∷ [])
  further number place insts inst at =
      ap (polled_all number) (take_next insts place inst at)
      ∙ (flat_map-append (polled number) (take place insts) (inst ∷ [])
      ∙ ap (λ rest. polled_all number (take place insts) ++ rest) (append-nil (polls_of number inst ++ inst ∷ [])))

  longer : (number place : ℕ) (insts : List Instruction) (inst : Instruction) → slice_get insts place ≡ Some inst
      → length (polled_all number (take place insts)) < length (polled_all number (take (suc place) insts))
  longer number place insts inst at =
      let more = ap length (further number place insts inst at) in
      let both = length-append (polled_all number (take place insts)) (polls_of number inst ++ inst ∷ []) in
      let one = one_at_least number inst in
      omega arith

  offset_rises : (number place : ℕ) (block : BasicBlock) → slice_get func.blocks number ≡ Some block → place < length block.insts → offset number place < offset number (suc place)
  unfolding offset
  offset_rises number zero block found within =
      let some = get_some block.insts 0 within in
      let up = longer number 0 block.insts some.0 some.1 in
      let same = ap (λ insts. length (polled_all number (take 1 insts))) (insts_are number block found) in
      omega arith
  offset_rises number (suc place) block found within =
      let some = get_some block.insts (suc place) within in
      let up = longer number (suc place) block.insts some.0 some.1 in
      let same = ap (λ insts. length (polled_all number (take (suc place) insts))) (insts_are number block found) in
      let same_next = ap (λ insts. length (polled_all number (take (suc (suc place)) insts))) (insts_are number block found) in
      omega arith

  offset_end : (number : ℕ) (own : BasicBlock) → slice_get func.blocks number ≡ Some own → (count : ℕ) → length own.insts ≡ count → 0 < count → offset number count ≡ length (placed_block number own).insts
  unfolding offset
  offset_end number own found zero long some = absurd (omega arith)
  offset_end number own found (suc count) long some =
      let all : take (suc count) own.insts ≡ own.insts = ap (λ n. take n own.insts) (sym long) ∙ take_whole own.insts in
      let both = length-append (front_poll number) (polled_all number own.insts) in
      ap (λ insts. length (front_poll number) + length (polled_all number (take (suc count) insts))) (insts_are number own found)
      ∙ (ap (λ insts. length (front_poll number) + length (polled_all number insts)) all ∙ sym both)

  offset_found : (number : ℕ) (block : BasicBlock) → slice_get (placed func).blocks number ≡ Some block
      → (own : BasicBlock) × (slice_get func.blocks number ≡ Some own) × (offset number (length own.insts) ≡ length block.insts)
  offset_found number block found = by (slice_get func.blocks number) refl
    where
      by : (here : Option BasicBlock) → slice_get func.blocks number ≡ here
          → (own : BasicBlock) × (slice_get func.blocks number ≡ Some own) × (offset number (length own.insts) ≡ length block.insts)
      by None none =
          let gone = block_placed 0 number func.blocks ∙ ap (option_map (placed_block (0 + number))) none in
          let both : None ≡ Some block = sym gone ∙ found in
          absurd cc
      by (Some own) at =
          let both : Some (placed_block number own) ≡ Some block = sym (placed_at func number own at) ∙ found in
          let same : placed_block number own ≡ block = cc in
          (own, at, offset_end number own at (length own.insts) refl (filled number own at) ∙ ap (λ (b : BasicBlock). length b.insts) same)

  -- a line stands behind its polls, and gives the value that it gave
  offset_defines : (value number place : ℕ) → Defines func value number place → (before : ℕ) × (offset number (suc place) ≡ suc before) × Defines (placed func) value number before
  unfolding offset
  offset_defines value number place defines =
      let own = defines.stands.block in
      let found = defines.stands.in_function in
      let at = defines.stands.in_block in
      let inst = defines.inst in
      let front : List Instruction = front_poll number ++ (polled_all number (take place own.insts) ++ polls_of number inst) in
      let whole : (placed_block number own).insts ≡ front ++ inst ∷ polled_all number (drop (place + 1) own.insts) =
      ap (λ insts. front_poll number ++ polled_all number insts) (split_at own.insts place inst at)
      ∙ (ap (λ rest. front_poll number ++ rest)
      (flat_map-append (polled number) (take place own.insts) (inst ∷ drop (place + 1) own.insts)
      ∙ (ap (λ rest. polled_all number (take place own.insts) ++ rest) (append_assoc (polls_of number inst) (inst ∷ []) (polled_all number (drop (place + 1) own.insts)))
      ∙ sym (append_assoc (polled_all number (take place own.insts)) (polls_of number inst) (inst ∷ polled_all number (drop (place + 1) own.insts)))))
      ∙ sym (append_assoc (front_poll number) (polled_all number (take place own.insts) ++ polls_of number inst) (inst ∷ polled_all number (drop (place + 1) own.insts)))) in
      let stands_at : slice_get (placed_block number own).insts (length front) ≡ Some inst =
      ap (λ insts. slice_get insts (length front)) whole ∙ get_middle front inst (polled_all number (drop (place + 1) own.insts)) in
      let here = placed_at func number own found in
      let within = slice_get_within (placed_block number own).insts (length front) inst stands_at in
      let own_within = slice_get_within own.insts place inst at in
      let cut = number_cut (placed func) number (length front) (placed_block number own) here (omega arith) in
      let own_cut = number_cut func number place own found (omega arith) in
      let front_is : take (length front) (placed_block number own).insts ≡ front =
      ap (take (length front)) whole ∙ take_front_of front (inst ∷ polled_all number (drop (place + 1) own.insts)) in
      let front_count = results_append (front_poll number) (polled_all number (take place own.insts) ++ polls_of number inst) in
      let middle_count = results_append (polled_all number (take place own.insts)) (polls_of number inst) in
      let no_front = front_results number in
      let no_polls = polls_results number inst in
      let same_results = ap length (results_polled number (take place own.insts)) in
      let counted : results_in (take (length front) (placed_block number own).insts) ≡ results_in (take place own.insts) = ap results_in front_is ∙ omega arith in
      let earlier : results_in (instructions_of (take number (placed func).blocks)) ≡ results_in (instructions_of (take number func.blocks)) =
      ap (λ blocks. results_in (instructions_of blocks)) (take_placed 0 number func.blocks) ∙ ap length (results_placed 0 (take number func.blocks)) in
      let numbered = defines.numbered in
      let long = ap length (further number place own.insts inst at) in
      let long_insts = ap (λ insts. length (polled_all number (take (suc place) insts))) (insts_are number own found) in
      let sum = length-append (polled_all number (take place own.insts)) (polls_of number inst ++ inst ∷ []) in
      let tail = length-append (polls_of number inst) (inst ∷ []) in
      let front_long = length-append (front_poll number) (polled_all number (take place own.insts) ++ polls_of number inst) in
      let middle_long = length-append (polled_all number (take place own.insts)) (polls_of number inst) in (
        length front,
        omega arith,
        record {
          inst = inst;
          stands = record { block = placed_block number own; in_function = here; in_block = stands_at };
          named = defines.named;
          numbered = omega arith;
        },
      )

  offset_first : (number : ℕ) → offset number 0 ≡ 0
  unfolding offset
  offset_first number = refl

  pub expands_polls : Expands func (placed func) (λ value. value)
  expands_polls = record {
    offset = offset;
    first = offset_first;
    rises = offset_rises;
    found = offset_found;
    defines = offset_defines;
    graph = graph_placed func;
  }

  -- a line of the placed function is a poll, or one of the source that begins no later
  pub record IsSourceLine (number place : ℕ) (inst : Instruction) : Type 0 where
    pub own : ℕ
    pub stands : Stands func number own inst
    pub no_later : (expands_polls.offset) number own ≤ place

  found_polled : (number : ℕ) (insts : List Instruction) (place : ℕ) (inst : Instruction) → slice_get (polled_all number insts) place ≡ Some inst
      → (inst ≡ poll_call) ⊎ ((own : ℕ) × (slice_get insts own ≡ Some inst) × (length (polled_all number (take own insts)) ≤ place))
  found_polled number [] place inst at = absurd cc
  found_polled number (x ∷ insts) place inst at = by (retreats number x) refl place at (λ k found. found_polled number insts k inst found)
    where
      later : (rest : ℕ) (b : Bool) → retreats number x ≡ b → ((inst ≡ poll_call) ⊎ ((own : ℕ) × (slice_get insts own ≡ Some inst) × (length (polled_all number (take own insts)) ≤ rest)))
          → (place : ℕ) → place ≡ length ((if b then poll_call ∷ [] else []) ++ x ∷ []) + rest
          → (inst ≡ poll_call) ⊎ ((own : ℕ) × (slice_get (x ∷ insts) own ≡ Some inst) × (length (polled_all number (take own (x ∷ insts))) ≤ place))
      later rest b is (inl poll) place same = inl poll
      later rest b is (inr there) place same =
          let long = length-append (polled number x) (polled_all number (take there.0 insts)) in
          let group = ap (λ (t : Bool). length ((if t then poll_call ∷ [] else []) ++ x ∷ [])) is in
          inr (suc there.0, there.1, let le = there.2 in omega arith)

      by : (b : Bool) → retreats number x ≡ b → (place : ℕ) → slice_get (((if b then poll_call ∷ [] else []) ++ x ∷ []) ++ polled_all number insts) place ≡ Some inst
          → ((k : ℕ) → slice_get (polled_all number insts) k ≡ Some inst
          → (inst ≡ poll_call) ⊎ ((own : ℕ) × (slice_get insts own ≡ Some inst) × (length (polled_all number (take own insts)) ≤ k)))
          → (inst ≡ poll_call) ⊎ ((own : ℕ) × (slice_get (x ∷ insts) own ≡ Some inst) × (length (polled_all number (take own (x ∷ insts))) ≤ place))
      by true is zero at further = inl (let same : poll_call ≡ inst = cc in sym same)
      by true is (suc zero) at further = inr (0, at, omega arith)
      by true is (suc (suc k)) at further = later k true is (further k at) (suc (suc k)) (omega arith)
      by false is zero at further = inr (0, at, omega arith)
      by false is (suc k) at further = later k false is (further k at) (suc k) (omega arith)

  offset_at_most : (number own place : ℕ) (block : BasicBlock) → slice_get func.blocks number ≡ Some block → length (polled_all number (take own block.insts)) ≤ place
      → offset number own ≤ length (front_poll number) + place
  unfolding offset
  offset_at_most number zero place block found le = omega arith
  offset_at_most number (suc own) place block found le =
      let same = ap (λ insts. length (polled_all number (take (suc own) insts))) (insts_are number block found) in
      omega arith

  front_or : (number : ℕ) (rest : List Instruction) (place : ℕ) (inst : Instruction) → slice_get (front_poll number ++ rest) place ≡ Some inst
      → (inst ≡ poll_call) ⊎ ((k : ℕ) × (slice_get rest k ≡ Some inst) × (place ≡ length (front_poll number) + k))
  front_or zero rest zero inst at = inl (let same : poll_call ≡ inst = cc in sym same)
  front_or zero rest (suc place) inst at = inr (place, at, omega arith)
  front_or (suc number) rest place inst at = inr (place, at, omega arith)

  pub source_line : (number place : ℕ) (inst : Instruction) → Stands (placed func) number place inst → (inst ≡ poll_call) ⊎ IsSourceLine number place inst
  unfolding expands_polls
  source_line number place inst stands =
      let own = offset_found number stands.block stands.in_function in
      let both : Some (placed_block number own.0) ≡ Some stands.block = sym (placed_at func number own.0 own.1) ∙ stands.in_function in
      let same : placed_block number own.0 ≡ stands.block = cc in
      let at : slice_get (front_poll number ++ polled_all number own.0.insts) place ≡ Some inst = ap (λ (b : BasicBlock). slice_get b.insts place) same ∙ stands.in_block in
      elim (front_or number (polled_all number own.0.insts) place inst at) [
        | inl poll ↦ inl poll
        | inr behind ↦ elim (found_polled number own.0.insts behind.0 inst behind.1) [
          | inl poll ↦ inl poll
          | inr there ↦
              let le = offset_at_most number there.0 behind.0 own.0 own.1 there.2 in
              inr (record {
                own = there.0;
                stands = record { block = own.0; in_function = own.1; in_block = there.1 };
                no_later = let is = behind.2 in omega arith;
              })
        ]
      ]
