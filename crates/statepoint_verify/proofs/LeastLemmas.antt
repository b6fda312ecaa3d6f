-- The least of faults: of two kinds, of a list of marks, of all functions.
use Rattle.std.proofs.Common.{◌≡◌, ◌∙◌, ◌⊎◌, inl, inr, ℕ, zero, suc, ◌+◌, ◌<◌, ◌≤◌, cond, Bool, true, false, List, [], ◌∷◌, ◌++◌, map, Option, Some, None, refl, ap, sym, subst, length, arith, take, add-one, length-append, take_all, get_or}
use Rattle.std.specs.Prelude.{slice_get, slice_index, unwrap_or}
use Rattle.std.specs.List.{Contains}
use Rattle.std.proofs.lemmas.Bool.{cases_lt}
use Rattle.std.proofs.lemmas.Option.{none-some, same_Some, slice_get_within, get_or_from_slice_get}
use Rattle.fact_tables.proofs.LineLemmas.{insts_are}
use Rattle.list_laws.proofs.Contents.{contains_none, contains_get, get_contained}
use Rattle.list_laws.proofs.Places.{get_taken, get_map, get_some}
use Rattle.ir_ast.specs.Blocks.{BasicBlock}
use Rattle.ir_ast.specs.Funcs.{Function, LinedFunction, instructions_of, content_of, lines_of}
use Rattle.ir_ast.specs.Modules.{LinedModule, line_at}
use Rattle.ir_cfg.specs.DefiniteUses.{text_place}
use Rattle.pair_facts.specs.Faults.{FaultAt, IsFault, IsVerified, IsNoLater, IsLeastFault}
use Rattle.pair_facts.specs.Faults as faults
use Rattle.statepoint_verify.specs.declared.faults.Fault.{Fault}
use Rattle.statepoint_verify.specs.declared.marks.Mark.{Mark}
use Rattle.statepoint_verify.specs.Marks.{PairFault, TextFault, AreAll, IsInside}
use Rattle.statepoint_verify.specs.Marks as marks
use Rattle.statepoint_verify.specs.Least.{IsLeast, IsLeastOf, comes_first, earlier, IsFaultIn, IsMarkedAs, IsFaultBelow, AreStarts}
use Rattle.ir_ast.proofs.FuncLaws.{starts_low}

-- ---- the order of faults

no_later_trans : (a b c d e f : ℕ) → IsNoLater a b c d → IsNoLater c d e f → IsNoLater a b e f
no_later_trans a b c d e f (inl first) (inl second) = inl (omega arith)
no_later_trans a b c d e f (inl first) (inr (same, low)) = inl (omega arith)
no_later_trans a b c d e f (inr (same, low)) (inl second) = inl (omega arith)
no_later_trans a b c d e f (inr (same, low)) (inr (other, below)) = inr (same ∙ other, omega arith)

first_is : (one other : Fault) → comes_first one other ≡ true → IsNoLater one.line one.code other.line other.code
first_is one other h = elim (cases_lt one.line other.line) [
  | inl less ↦ inl less
  | inr past ↦ inr (grind (arith, h), grind (arith, h))
]

first_not : (one other : Fault) → comes_first one other ≡ false → IsNoLater other.line other.code one.line one.code
first_not one other h = elim (cases_lt other.line one.line) [
  | inl less ↦ inl less
  | inr past ↦ inr (grind (arith, h), grind (arith, h))
]

-- ---- the least of two kinds

least_kept : (P : ℕ → ℕ → Type 0) (line code other_line other_code : ℕ) → IsNoLater line code other_line other_code → IsLeast P other_line other_code
    → (l c : ℕ) → P l c → IsNoLater line code l c
least_kept P line code other_line other_code before is l c there =
    no_later_trans line code other_line other_code l c before (is.least l c there)

-- what has two kinds, and no others
pub record IsEither (P Q R : ℕ → ℕ → Type 0) : Type 0 where
  pub split : (line code : ℕ) → R line code → P line code ⊎ Q line code
  pub first : (line code : ℕ) → P line code → R line code
  pub second : (line code : ℕ) → Q line code → R line code

pub least_either : (P Q R : ℕ → ℕ → Type 0) (one other : Option Fault) → IsEither P Q R → IsLeastOf P one → IsLeastOf Q other → IsLeastOf R (earlier one other)
least_either P Q R None None either none nothing = λ line code there. elim (either.split line code there) [
  | inl p ↦ none line code p
  | inr q ↦ nothing line code q
]
least_either P Q R None (Some b) either none is = record {
  fault = either.second b.line b.code is.fault;
  least = λ line code there. elim (either.split line code there) [
    | inl p ↦ absurd (none line code p)
    | inr q ↦ is.least line code q
  ];
}
least_either P Q R (Some a) None either is nothing = record {
  fault = either.first a.line a.code is.fault;
  least = λ line code there. elim (either.split line code there) [
    | inl p ↦ is.least line code p
    | inr q ↦ absurd (nothing line code q)
  ];
}
least_either P Q R (Some a) (Some b) either p_is q_is = by (comes_first a b) refl
  where
    by : (test : Bool) → comes_first a b ≡ test → IsLeastOf R (cond test (Some a) (Some b))
    by true h = record {
      fault = either.first a.line a.code p_is.fault;
      least = λ line code there. elim (either.split line code there) [
        | inl p ↦ p_is.least line code p
        | inr q ↦ least_kept Q a.line a.code b.line b.code (first_is a b h) q_is line code q
      ];
    }
    by false h = record {
      fault = either.second b.line b.code q_is.fault;
      least = λ line code there. elim (either.split line code there) [
        | inl p ↦ least_kept P b.line b.code a.line a.code (first_not a b h) p_is line code p
        | inr q ↦ q_is.least line code q
      ];
    }

-- ---- the least of marks

pub marked_empty : (lined : LinedFunction) (marks : List Mark) → IsLeastOf (IsMarkedAs lined (take 0 marks)) None
marked_empty lined marks = λ line code is. contains_none is.mark is.contained

taken_cases : {A : Type 0} (xs : List A) (k : ℕ) (x y : A) → slice_get xs k ≡ Some x → Contains (take (k + 1) xs) y → Contains (take k xs) y ⊎ (y ≡ x)
taken_cases xs k x y at there =
    let from = get_contained (take (k + 1) xs) y there in
    elim (cases_lt from.0 (k + 1)) [
      | inl below ↦ (let own : slice_get xs from.0 ≡ Some y = sym (get_taken xs from.0 (k + 1) below) ∙ from.1 in
          elim (cases_lt from.0 k) [
            | inl less ↦ inl (contains_get (take k xs) from.0 y (get_taken xs from.0 k less ∙ own))
            | inr past ↦ (let last : from.0 ≡ k = omega (arith, below, past) in
                inr (same_Some y x (sym own ∙ ap (slice_get xs) last ∙ at)))
          ])
      | inr past ↦ absurd (none_past xs (k + 1) from.0 y past from.1)
    ]
  where
    none_past : {A : Type 0} (xs : List A) (n i : ℕ) (y : A) → n ≤ i → slice_get (take n xs) i ≡ Some y → ⊥
    none_past xs zero i y past at = none-some y at
    none_past [] (suc n) i y past at = none-some y at
    none_past (x ∷ xs) (suc n) zero y past at = absurd (omega arith)
    none_past (x ∷ xs) (suc n) (suc i) y past at = none_past xs n i y (omega arith) at

taken_kept : {A : Type 0} (xs : List A) (k : ℕ) (y : A) → Contains (take k xs) y → Contains (take (k + 1) xs) y
taken_kept xs k y there =
    let from = get_contained (take k xs) y there in
    let below : from.0 < k = taken_below xs k from.0 y from.1 in
    contains_get (take (k + 1) xs) from.0 y (get_taken xs from.0 (k + 1) (omega arith) ∙ sym (get_taken xs from.0 k below) ∙ from.1)
  where
    taken_below : {A : Type 0} (xs : List A) (n i : ℕ) (y : A) → slice_get (take n xs) i ≡ Some y → i < n
    taken_below xs zero i y at = absurd (none-some y at)
    taken_below [] (suc n) i y at = absurd (none-some y at)
    taken_below (x ∷ xs) (suc n) zero y at = omega arith
    taken_below (x ∷ xs) (suc n) (suc i) y at = omega (arith, taken_below xs n i y at)

taken_last : {A : Type 0} (xs : List A) (k : ℕ) (x : A) → slice_get xs k ≡ Some x → Contains (take (k + 1) xs) x
taken_last xs k x at = contains_get (take (k + 1) xs) k x (get_taken xs k (k + 1) (omega arith) ∙ at)

pub marked_step : (lined : LinedFunction) (marks : List Mark) (k : ℕ) (mark : Mark) (least : Option Fault) (fault : Fault) → slice_get marks k ≡ Some mark
    → fault.line ≡ slice_index lined.lines (text_place lined.content mark.block mark.place) → fault.code ≡ mark.code
    → IsLeastOf (IsMarkedAs lined (take k marks)) least → IsLeastOf (IsMarkedAs lined (take (k + 1) marks)) (earlier least (Some fault))
marked_step lined marks k mark least fault at line_is code_is before =
    least_either (IsMarkedAs lined (take k marks)) One (IsMarkedAs lined (take (k + 1) marks)) least (Some fault)
    (record {
      split = λ line code is. elim (taken_cases marks k mark is.mark at is.contained) [
        | inl old ↦ inl (record { mark = is.mark; contained = old; code_is = is.code_is; line_is = is.line_is })
        | inr same ↦ inr (
          is.line_is ∙ ap (λ (m : Mark). slice_index lined.lines (text_place lined.content m.block m.place)) same ∙ sym line_is,
          is.code_is ∙ ap (λ (m : Mark). m.code) same ∙ sym code_is,
        )
      ];
      first = λ line code is. record { mark = is.mark; contained = taken_kept marks k is.mark is.contained; code_is = is.code_is; line_is = is.line_is };
      second = λ line code (line_same, code_same). record {
        mark = mark;
        contained = taken_last marks k mark at;
        code_is = code_same ∙ code_is;
        line_is = line_same ∙ line_is;
      };
    })
    before
    (record { fault = (refl, refl); least = λ line code (line_same, code_same). inr (sym line_same, omega (arith, code_same)) })
  where
    One : ℕ → ℕ → Type 0
    One line code = (line ≡ fault.line) × (code ≡ fault.code)

pub marked_end : (lined : LinedFunction) (marks : List Mark) (k : ℕ) (least : Option Fault) → length marks ≤ k
    → IsLeastOf (IsMarkedAs lined (take k marks)) least → IsLeastOf (IsMarkedAs lined marks) least
marked_end lined marks k least past is = subst (λ (xs : List Mark). IsLeastOf (IsMarkedAs lined xs) least) (take_all k marks past) is

-- ---- the faults of a function

fault_cases : (func : Function) (block place code : ℕ) → FaultAt func block place code → PairFault func block place code ⊎ TextFault func block place code
fault_cases func block place _ (faults.stale code at pair is own) = inl (marks.stale code at pair is own)
fault_cases func block place _ (faults.loose code at pair is own) = inl (marks.loose code at pair is own)
fault_cases func block place _ (faults.open_group leads own) = inr (marks.open_group leads own)
fault_cases func block place _ (faults.unchecked leads own) = inr (marks.unchecked leads own)
fault_cases func block place _ (faults.plain_call leads own) = inr (marks.plain_call leads own)
fault_cases func block place _ (faults.lost_value own) = inr (marks.lost_value own)

pair_fault : (func : Function) (block place code : ℕ) → PairFault func block place code → FaultAt func block place code
pair_fault func block place _ (marks.stale code at pair is own) = faults.stale code at pair is own
pair_fault func block place _ (marks.loose code at pair is own) = faults.loose code at pair is own

text_fault : (func : Function) (block place code : ℕ) → TextFault func block place code → FaultAt func block place code
text_fault func block place _ (marks.open_group leads own) = faults.open_group leads own
text_fault func block place _ (marks.unchecked leads own) = faults.unchecked leads own
text_fault func block place _ (marks.plain_call leads own) = faults.plain_call leads own
text_fault func block place _ (marks.lost_value own) = faults.lost_value own

pub least_in_function : (lined : LinedFunction) (by_pairs by_text : List Mark) (one other : Option Fault) → AreAll (PairFault lined.content) by_pairs
    → AreAll (TextFault lined.content) by_text → IsLeastOf (IsMarkedAs lined by_pairs) one → IsLeastOf (IsMarkedAs lined by_text) other
    → IsLeastOf (IsFaultIn lined) (earlier one other)
least_in_function lined by_pairs by_text one other pairs text first second =
    let func = lined.content in
    least_either (IsMarkedAs lined by_pairs) (IsMarkedAs lined by_text) (IsFaultIn lined) one other
    (record {
      split = λ line code is. elim (fault_cases func is.block is.place code is.fault) [
        | inl own ↦ inl (record {
          mark = record { block = is.block; place = is.place; code = code };
          contained = (pairs (record { block = is.block; place = is.place; code = code })).1 own;
          code_is = refl;
          line_is = is.line_is;
        })
        | inr own ↦ inr (record {
          mark = record { block = is.block; place = is.place; code = code };
          contained = (text (record { block = is.block; place = is.place; code = code })).1 own;
          code_is = refl;
          line_is = is.line_is;
        })
      ];
      first = λ line code is. record {
        block = is.mark.block;
        place = is.mark.place;
        fault = pair_fault func is.mark.block is.mark.place code
            (subst (PairFault func is.mark.block is.mark.place) (sym is.code_is) ((pairs is.mark).0 is.contained));
        line_is = is.line_is;
      };
      second = λ line code is. record {
        block = is.mark.block;
        place = is.mark.place;
        fault = text_fault func is.mark.block is.mark.place code
            (subst (TextFault func is.mark.block is.mark.place) (sym is.code_is) ((text is.mark).0 is.contained));
        line_is = is.line_is;
      };
    })
    first second

-- ---- the text places of blocks

pub starts_step : (blocks : List BasicBlock) (k : ℕ) (block : BasicBlock) → slice_get blocks k ≡ Some block
    → length (instructions_of (take (k + 1) blocks)) ≡ length (instructions_of (take k blocks)) + length block.insts
starts_step blocks k block at = subst (λ (n : ℕ). length (instructions_of (take n blocks)) ≡ length (instructions_of (take k blocks)) + length block.insts) (sym (add-one k)) (by blocks k at)
  where
    by : (blocks : List BasicBlock) (k : ℕ) → slice_get blocks k ≡ Some block
        → length (instructions_of (take (suc k) blocks)) ≡ length (instructions_of (take k blocks)) + length block.insts
    by [] k at = absurd (none-some block at)
    by (first ∷ blocks) zero at =
        let same : length first.insts ≡ length block.insts = ap (λ (b : BasicBlock). length b.insts) (same_Some first block at) in
        let long = length-append first.insts (instructions_of (take 0 blocks)) in
        omega (arith, same, long)
    by (first ∷ blocks) (suc k) at =
        let rest = by blocks k at in
        omega (arith, rest, length-append first.insts (instructions_of (take (suc k) blocks)), length-append first.insts (instructions_of (take k blocks)))

pub place_low : (blocks : List BasicBlock) (k place : ℕ) (block : BasicBlock) → slice_get blocks k ≡ Some block → place < length block.insts
    → length (instructions_of (take k blocks)) + place < length (instructions_of blocks)
place_low blocks k place block at below = omega (arith, starts_step blocks k block at, starts_low blocks (k + 1), below)

-- the starts of the first blocks
pub record AreStartsUpTo (func : Function) (count next : ℕ) (starts : List ℕ) : Type 0 where
  pub long : length starts ≡ count
  pub next_is : next ≡ length (instructions_of (take count func.blocks))
  pub each : (block : ℕ) → block < count → slice_get starts block ≡ Some (length (instructions_of (take block func.blocks)))

pub starts_none : (func : Function) → AreStartsUpTo func 0 0 []
starts_none func = record { long = refl; next_is = refl; each = λ block low. absurd (omega arith) }

pub starts_more : (func : Function) (count next : ℕ) (block : BasicBlock) (starts : List ℕ) → slice_get func.blocks count ≡ Some block → AreStartsUpTo func count next starts
    → AreStartsUpTo func (count + 1) (next + length block.insts) (starts ++ next ∷ [])
starts_more func count next block starts at are = record {
  long = length-append starts (next ∷ []) ∙ ap (λ (n : ℕ). n + 1) are.long;
  next_is = ap (λ (n : ℕ). n + length block.insts) are.next_is ∙ sym (starts_step func.blocks count block at);
  each = λ k low. elim (cases_lt k count) [
    | inl less ↦ front starts (next ∷ []) k _ (are.each k less)
    | inr past ↦ (let last : k ≡ length starts = omega (arith, low, past, are.long) in
        let same : k ≡ count = omega (arith, low, past) in
        ap (slice_get (starts ++ next ∷ [])) last ∙ middle starts next ∙ ap Some are.next_is ∙ ap (λ (n : ℕ). Some (length (instructions_of (take n func.blocks)))) (sym same))
  ];
}
  where
    front : (xs ys : List ℕ) (k x : ℕ) → slice_get xs k ≡ Some x → slice_get (xs ++ ys) k ≡ Some x
    front [] ys k x at = absurd (none-some x at)
    front (y ∷ xs) ys zero x at = at
    front (y ∷ xs) ys (suc k) x at = front xs ys k x at

    middle : (xs : List ℕ) (x : ℕ) → slice_get (xs ++ x ∷ []) (length xs) ≡ Some x
    middle [] x = refl
    middle (y ∷ xs) x = middle xs x

-- where a mark stands in the text
pub record IsPlacedAt (func : Function) (starts : List ℕ) (mark : Mark) : Type 0 where
  pub is : get_or starts mark.block 0 + mark.place ≡ text_place func mark.block mark.place
  pub low : text_place func mark.block mark.place < length (instructions_of func.blocks)

pub mark_placed : (func : Function) (starts : List ℕ) (mark : Mark) → AreStarts func starts → IsInside func mark → IsPlacedAt func starts mark
mark_placed func starts mark are inside =
    let block = get_some func.blocks mark.block inside.block in
    let short : mark.place < length block.0.insts = subst (λ (n : ℕ). mark.place < n) (ap length (insts_are func mark.block block.0 block.1)) inside.place in
    record {
      is = ap (λ (n : ℕ). n + mark.place) (get_or_from_slice_get starts mark.block (length (instructions_of (take mark.block func.blocks))) 0 (are mark.block inside.block));
      low = place_low func.blocks mark.block mark.place block.0 block.1 short;
    }

-- ---- the faults of a module

pub below_none : (whole : LinedModule) → IsLeastOf (IsFaultBelow whole 0) None
below_none whole = λ line code is. omega (arith, is.below)

pub below_more : (whole : LinedModule) (count : ℕ) (lined : LinedFunction) (least own : Option Fault) → slice_get whole.content.funcs count ≡ Some lined.content
    → slice_get whole.lines count ≡ Some lined.lines → IsLeastOf (IsFaultBelow whole count) least → IsLeastOf (IsFaultIn lined) own
    → IsLeastOf (IsFaultBelow whole (count + 1)) (earlier least own)
below_more whole count lined least own at lines_at before is =
    least_either (IsFaultBelow whole count) (IsFaultIn lined) (IsFaultBelow whole (count + 1)) least own
    (record {
      split = λ line code one. elim (cases_lt one.number count) [
        | inl less ↦ inl (record { number = one.number; below = less; func = one.func; defined = one.defined; block = one.block; place = one.place; fault = one.fault; line_is = one.line_is })
        | inr past ↦
            (let last : one.number ≡ count = omega (arith, one.below, past) in
            let same : one.func ≡ lined.content = same_Some one.func lined.content (sym one.defined ∙ ap (slice_get whole.content.funcs) last ∙ at) in
            inr (record {
              block = one.block;
              place = one.place;
              fault = subst (λ (f : Function). FaultAt f one.block one.place code) same one.fault;
              line_is = one.line_is ∙ ap (λ (n : ℕ). line_at whole.lines n (text_place one.func one.block one.place)) last ∙ line_same (text_place one.func one.block one.place)
                  ∙ ap (λ (f : Function). slice_index lined.lines (text_place f one.block one.place)) same;
            }))
      ];
      first = λ line code one. record { number = one.number; below = omega (arith, one.below); func = one.func; defined = one.defined; block = one.block; place = one.place; fault = one.fault; line_is = one.line_is };
      second = λ line code one. record {
        number = count;
        below = omega arith;
        func = lined.content;
        defined = at;
        block = one.block;
        place = one.place;
        fault = one.fault;
        line_is = one.line_is ∙ sym (line_same (text_place lined.content one.block one.place));
      };
    })
    before is
  where
    line_same : (place : ℕ) → line_at whole.lines count place ≡ slice_index lined.lines place
    line_same place = ap (λ (found : Option (List ℕ)). slice_index (unwrap_or found []) place) lines_at

-- what the functions' parts are
pub func_content : (funcs : List LinedFunction) (contents : List Function) (k : ℕ) (lined : LinedFunction) → map content_of funcs ≡ contents → slice_get funcs k ≡ Some lined
    → slice_get contents k ≡ Some lined.content
func_content funcs contents k lined same at = ap (λ (xs : List Function). slice_get xs k) (sym same) ∙ get_map content_of funcs k lined at

pub func_lines : (funcs : List LinedFunction) (lines : List (List ℕ)) (k : ℕ) (lined : LinedFunction) → map lines_of funcs ≡ lines → slice_get funcs k ≡ Some lined
    → slice_get lines k ≡ Some lined.lines
func_lines funcs lines k lined same at = ap (λ (xs : List (List ℕ)). slice_get xs k) (sym same) ∙ get_map lines_of funcs k lined at

pub verified_by : (whole : LinedModule) → IsLeastOf (IsFaultBelow whole (length whole.content.funcs)) None → IsVerified whole.content
verified_by whole none number block place code func defined fault =
    none (line_at whole.lines number (text_place func block place)) code (record {
      number = number;
      below = slice_get_within whole.content.funcs number func defined;
      func = func;
      defined = defined;
      block = block;
      place = place;
      fault = fault;
      line_is = refl;
    })

pub least_by : (whole : LinedModule) (fault : Fault) → IsLeastOf (IsFaultBelow whole (length whole.content.funcs)) (Some fault) → IsLeastFault whole fault.line fault.code
least_by whole fault is = record {
  fault = (let one = is.fault in record { number = one.number; func = one.func; defined = one.defined; block = one.block; place = one.place; fault = one.fault; line_is = one.line_is });
  least = λ line code one. is.least line code (record {
    number = one.number;
    below = slice_get_within whole.content.funcs one.number one.func one.defined;
    func = one.func;
    defined = one.defined;
    block = one.block;
    place = one.place;
    fault = one.fault;
    line_is = one.line_is;
  });
}
