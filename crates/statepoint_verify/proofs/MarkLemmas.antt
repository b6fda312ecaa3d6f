-- Marks of the faults that the text decides, a line at a time.
use Rattle.std.proofs.Common.{◌≡◌, ◌∙◌, ◌⊎◌, inl, inr, ℕ, ◌+◌, ◌<◌, Bool, true, false, List, [], ◌∷◌, Option, Some, refl, ap, sym, subst, length, arith}
use Rattle.std.specs.Prelude.{◌&&◌, slice_get, slice_index}
use Rattle.std.specs.List.{Contains}
use Rattle.std.specs.Option.{option_map_or}
use Rattle.std.proofs.lemmas.Bool.{cases_lt, and_parts, and_from}
use Rattle.std.proofs.lemmas.List.Elements.{Contains-append_left, Contains-append_right, Contains-append_cases}
use Rattle.std.proofs.lemmas.Option.{slice_get_within, slice_get_past}
use Rattle.list_laws.proofs.Contents.{contains_none, contains_first, contains_one}
use Rattle.ir_ast.specs.Blocks.{BasicBlock}
use Rattle.ir_ast.specs.Funcs.{Function}
use Rattle.ir_cfg.specs.Graphs.{graph_of}
use Rattle.ir_cfg.specs.Paths.{Reached}
use Rattle.object_meaning.specs.Lines.{Line, registers_of, insts_in}
use Rattle.pair_facts.specs.Lines.{lines_at}
use Rattle.fact_tables.specs.Homes.{IsBefore}
use Rattle.fact_tables.proofs.LineLemmas.{insts_are}
use Rattle.statepoint_verify.specs.declared.marks.Mark.{Mark}
use Rattle.statepoint_verify.specs.Tests.{is_open, is_unchecked, is_plain_at, loses}
use Rattle.statepoint_verify.specs.Marks.{TextFault, open_group, unchecked, plain_call, lost_value, mark_of, AreAll, AreMarked, IsInside, marked_where, line_marked}
use Rattle.statepoint_verify.proofs.TestLemmas.{open_found, open_tests, unchecked_found, unchecked_tests, plain_found, plain_tests, lost_found, lost_tests}
use Rattle.object_meaning.proofs.LineLaws.{plain_count}
use Rattle.fact_tables.proofs.HomeLemmas.{before_cases}
use Rattle.used_pairs.proofs.UseLemmas.{earlier_too}

-- ---- one mark

where_cases : (test : Bool) (mark : Mark) (marks : List Mark) (one : Mark) → Contains (marked_where test mark marks) one
    → Contains marks one ⊎ ((test ≡ true) × (mark ≡ one))
where_cases false mark marks one there = inl there
where_cases true mark marks one there = elim (Contains-append_cases marks (mark ∷ []) one there) [
  | inl before ↦ inl before
  | inr last ↦ inr (refl, contains_one mark one last)
]

where_kept : (test : Bool) (mark : Mark) (marks : List Mark) (one : Mark) → Contains marks one → Contains (marked_where test mark marks) one
where_kept false mark marks one there = there
where_kept true mark marks one there = Contains-append_left marks (mark ∷ []) one there

where_new : (test : Bool) (mark : Mark) (marks : List Mark) → test ≡ true → Contains (marked_where test mark marks) mark
where_new test mark marks is =
    subst (λ b. Contains (marked_where b mark marks) mark) (sym is) (Contains-append_right marks (mark ∷ []) mark (contains_first mark []))

-- ---- one line

abbrev Here : Function → ℕ → ℕ → Mark → Type 0
Here func block place mark = TextFault func mark.block mark.place mark.code × ((mark.block ≡ block) × (mark.place ≡ place))

here_by : (func : Function) (block place code : ℕ) (mark : Mark) → TextFault func block place code → mark_of block place code ≡ mark → Here func block place mark
here_by func block place code mark fault same = subst (Here func block place) same (fault, (refl, refl))

line_sound : (func : Function) (block place : ℕ) (reached : Bool) (marks : List Mark) (mark : Mark) → place < length (lines_at func block)
    → (reached ≡ true → Reached (graph_of func) block) → Contains (line_marked (lines_at func block) reached block place marks) mark
    → Contains marks mark ⊎ Here func block place mark
line_sound func block place reached marks mark below leads there =
    let lines = lines_at func block in
    let first = marked_where (reached && is_open lines place) (mark_of block place 2) marks in
    let second = marked_where (reached && is_unchecked lines place) (mark_of block place 3) first in
    let third = marked_where (reached && is_plain_at lines place) (mark_of block place 6) second in
    elim (where_cases (loses lines place) (mark_of block place 7) third mark there) [
      | inr is ↦ inr (here_by func block place 7 mark (lost_value (lost_found lines place below is.0)) is.1)
      | inl rest ↦ elim (where_cases (reached && is_plain_at lines place) (mark_of block place 6) second mark rest) [
        | inr is ↦ (let on = and_parts reached (is_plain_at lines place) is.0 in
            inr (here_by func block place 6 mark (plain_call (leads on.0) (plain_found lines place below on.1)) is.1))
        | inl rest ↦ elim (where_cases (reached && is_unchecked lines place) (mark_of block place 3) first mark rest) [
          | inr is ↦ (let on = and_parts reached (is_unchecked lines place) is.0 in
              inr (here_by func block place 3 mark (unchecked (leads on.0) (unchecked_found lines place below on.1)) is.1))
          | inl rest ↦ elim (where_cases (reached && is_open lines place) (mark_of block place 2) marks mark rest) [
            | inr is ↦ (let on = and_parts reached (is_open lines place) is.0 in
                inr (here_by func block place 2 mark (open_group (leads on.0) (open_found lines place below on.1)) is.1))
            | inl before ↦ inl before
          ]
        ]
      ]
    ]

line_kept : (lines : List Line) (reached : Bool) (block place : ℕ) (marks : List Mark) (mark : Mark) → Contains marks mark
    → Contains (line_marked lines reached block place marks) mark
line_kept lines reached block place marks mark there =
    let first = marked_where (reached && is_open lines place) (mark_of block place 2) marks in
    let second = marked_where (reached && is_unchecked lines place) (mark_of block place 3) first in
    let third = marked_where (reached && is_plain_at lines place) (mark_of block place 6) second in
    where_kept (loses lines place) (mark_of block place 7) third mark
    (where_kept (reached && is_plain_at lines place) (mark_of block place 6) second mark
    (where_kept (reached && is_unchecked lines place) (mark_of block place 3) first mark
    (where_kept (reached && is_open lines place) (mark_of block place 2) marks mark there)))

line_complete : (func : Function) (block place code : ℕ) (reached : Bool) (marks : List Mark) → (Reached (graph_of func) block → reached ≡ true)
    → TextFault func block place code → Contains (line_marked (lines_at func block) reached block place marks) (mark_of block place code)
line_complete func block place _ reached marks on (open_group leads is) =
    let lines = lines_at func block in
    let mark = mark_of block place 2 in
    let first = marked_where (reached && is_open lines place) (mark_of block place 2) marks in
    let second = marked_where (reached && is_unchecked lines place) (mark_of block place 3) first in
    let third = marked_where (reached && is_plain_at lines place) (mark_of block place 6) second in
    where_kept (loses lines place) (mark_of block place 7) third mark
    (where_kept (reached && is_plain_at lines place) (mark_of block place 6) second mark
    (where_kept (reached && is_unchecked lines place) (mark_of block place 3) first mark
    (where_new (reached && is_open lines place) mark marks (and_from reached (is_open lines place) (on leads) (open_tests lines place is)))))
line_complete func block place _ reached marks on (unchecked leads is) =
    let lines = lines_at func block in
    let mark = mark_of block place 3 in
    let first = marked_where (reached && is_open lines place) (mark_of block place 2) marks in
    let second = marked_where (reached && is_unchecked lines place) (mark_of block place 3) first in
    let third = marked_where (reached && is_plain_at lines place) (mark_of block place 6) second in
    where_kept (loses lines place) (mark_of block place 7) third mark
    (where_kept (reached && is_plain_at lines place) (mark_of block place 6) second mark
    (where_new (reached && is_unchecked lines place) mark first (and_from reached (is_unchecked lines place) (on leads) (unchecked_tests lines place is))))
line_complete func block place _ reached marks on (plain_call leads is) =
    let lines = lines_at func block in
    let mark = mark_of block place 6 in
    let first = marked_where (reached && is_open lines place) (mark_of block place 2) marks in
    let second = marked_where (reached && is_unchecked lines place) (mark_of block place 3) first in
    let third = marked_where (reached && is_plain_at lines place) (mark_of block place 6) second in
    where_kept (loses lines place) (mark_of block place 7) third mark
    (where_new (reached && is_plain_at lines place) mark second (and_from reached (is_plain_at lines place) (on leads) (plain_tests lines place is)))
line_complete func block place _ reached marks on (lost_value is) =
    let lines = lines_at func block in
    let first = marked_where (reached && is_open lines place) (mark_of block place 2) marks in
    let second = marked_where (reached && is_unchecked lines place) (mark_of block place 3) first in
    let third = marked_where (reached && is_plain_at lines place) (mark_of block place 6) second in
    where_new (loses lines place) (mark_of block place 7) third (lost_tests lines place is)

-- ---- where a fault stands

pub text_within : (func : Function) (block place code : ℕ) → TextFault func block place code → place < length (lines_at func block)
text_within func block place _ (open_group leads is) = slice_get_within (lines_at func block) place is.line is.relocates.stands
text_within func block place _ (unchecked leads is) = slice_get_within (lines_at func block) place is.line is.stands
text_within func block place _ (plain_call leads is) = slice_get_within (lines_at func block) place is.line is.stands
text_within func block place _ (lost_value is) = slice_get_within (lines_at func block) place is.line is.stands

pub inst_count : (func : Function) (block : ℕ) → length (lines_at func block) ≡ length (insts_in func block)
inst_count func block = plain_count (slice_index (registers_of func) block) (insts_in func block)

-- a block with a line is one of the function's
pub block_within : (func : Function) (block place : ℕ) → place < length (lines_at func block) → block < length func.blocks
block_within func block place below = elim (cases_lt block (length func.blocks)) [
  | inl less ↦ less
  | inr past ↦ (let none : length (insts_in func block) ≡ 0 =
      ap (λ (found : Option BasicBlock). length (option_map_or (λ (b : BasicBlock). b.insts) found [])) (slice_get_past func.blocks block past) in
      absurd (omega (arith, below, inst_count func block, none)))
]

pub inside_by : (func : Function) (mark : Mark) → mark.place < length (lines_at func mark.block) → IsInside func mark
inside_by func mark below = record {
  block = block_within func mark.block mark.place below;
  place = omega (arith, below, inst_count func mark.block);
}

pub text_inside : (func : Function) (marks : List Mark) → AreAll (TextFault func) marks → (mark : Mark) → Contains marks mark → IsInside func mark
text_inside func marks are mark there = inside_by func mark (text_within func mark.block mark.place mark.code ((are mark).0 there))

-- ---- a line more, a block more, all blocks

pub marked_more : (func : Function) (block place : ℕ) (reached : Bool) (marks next : List Mark) → place < length (lines_at func block)
    → (reached ≡ true → Reached (graph_of func) block) → (Reached (graph_of func) block → reached ≡ true)
    → next ≡ line_marked (lines_at func block) reached block place marks → AreMarked func block place marks → AreMarked func block (place + 1) next
marked_more func block place reached marks next below leads on next_is are = record {
  sound = λ mark there. elim (line_sound func block place reached marks mark below leads (subst (λ (xs : List Mark). Contains xs mark) next_is there)) [
    | inl before ↦ (let old = are.sound mark before in (old.0, earlier_too mark.block mark.place block place old.1))
    | inr (one, (same, there_too)) ↦ (one, inr (same, omega arith))
  ];
  complete = λ mark one before. subst (λ (xs : List Mark). Contains xs mark) (sym next_is) (elim (before_cases mark.block mark.place block place before) [
    | inl earlier ↦ line_kept (lines_at func block) reached block place marks mark (are.complete mark one earlier)
    | inr here ↦
        (let fault : TextFault func block place mark.code =
        subst (λ (b : ℕ). TextFault func b place mark.code) here.0 (subst (λ (k : ℕ). TextFault func mark.block k mark.code) here.1 one) in
        subst (λ (b : ℕ). Contains (line_marked (lines_at func block) reached block place marks) (mark_of b mark.place mark.code)) (sym here.0)
        (subst (λ (k : ℕ). Contains (line_marked (lines_at func block) reached block place marks) (mark_of block k mark.code)) (sym here.1)
        (line_complete func block place mark.code reached marks on fault)))
  ]);
}

pub marked_next : (func : Function) (block : ℕ) (found : BasicBlock) (marks : List Mark) → slice_get func.blocks block ≡ Some found
    → AreMarked func block (length found.insts) marks → AreMarked func (block + 1) 0 marks
marked_next func block found marks at are = record {
  sound = λ mark there. (let old = are.sound mark there in (old.0, later mark.block mark.place old.1));
  complete = λ mark one before. are.complete mark one (earlier mark one before);
}
  where
    later : (b k : ℕ) → IsBefore b k block (length found.insts) → IsBefore b k (block + 1) 0
    later b k (inl less) = inl (omega arith)
    later b k (inr (same, below)) = inl (omega arith)

    inside : (mark : Mark) → TextFault func mark.block mark.place mark.code → mark.block ≡ block → mark.place < length found.insts
    inside mark one same =
        let within = text_within func mark.block mark.place mark.code one in
        let long : length (insts_in func mark.block) ≡ length found.insts =
        ap (λ (b : ℕ). length (insts_in func b)) same ∙ ap length (insts_are func block found at) in
        omega (arith, within, long, inst_count func mark.block)

    earlier : (mark : Mark) → TextFault func mark.block mark.place mark.code → IsBefore mark.block mark.place (block + 1) 0
        → IsBefore mark.block mark.place block (length found.insts)
    earlier mark one (inr (same, below)) = absurd (omega arith)
    earlier mark one (inl below) = elim (cases_lt mark.block block) [
      | inl less ↦ inl less
      | inr past ↦ (let same : mark.block ≡ block = omega arith in inr (same, inside mark one same))
    ]

pub marked_none : (func : Function) → AreMarked func 0 0 []
marked_none func = record {
  sound = λ mark there. absurd (contains_none mark there);
  complete = λ mark one before. absurd (nothing mark.block mark.place before);
}
  where
    nothing : (b k : ℕ) → IsBefore b k 0 0 → ⊥
    nothing b k (inl less) = omega arith
    nothing b k (inr (same, below)) = omega arith

pub marked_all : (func : Function) (marks : List Mark) → AreMarked func (length func.blocks) 0 marks → AreAll (TextFault func) marks
marked_all func marks are mark = (
  λ there. (are.sound mark there).0,
  λ one. are.complete mark one (inl (block_within func mark.block mark.place (text_within func mark.block mark.place mark.code one))),
)
