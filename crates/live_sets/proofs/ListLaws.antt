-- The lists of a block's calls, from its end to its front.
use Rattle.std.proofs.Common.{◌≡◌, ℕ, zero, suc, ◌+◌, ◌-◌, ◌<◌, Bool, true, false, not, eqb, leb, ◌&&◌, ◌||◌, if◌then◌else◌, List, [], ◌∷◌, ◌++◌, length, map, filter, take, drop, get_or, refl, ap, sym, arith, inl, inr, Some, None, Option, slice_get, ◌∙◌, append-nil, append_assoc}
use Rattle.std.specs.Prelude.{is_some, reverse}
use Rattle.std.specs.List.{list_any, range_with_len, flat_map, Contains}
use Rattle.std.specs.Option.{option_map_or, option_map}
use Rattle.std.specs.List.Sorted.{IsStrictlySortedBy}
use Rattle.std.specs.Ordering.{nat_cmp}
use Rattle.std.specs.BTreeSet.{BTreeSet}
use Rattle.std.specs.Global.{Vec}
use Rattle.std.proofs.lemmas.Bool.{cases_Bool, true≢false, le-leb}
use Rattle.std.proofs.lemmas.List.{map-append, reverse-append}
use Rattle.std.proofs.lemmas.Option.{slice_get_within}
use Rattle.sp_ids.specs.declared.ids.ValueId.{ValueId}
use Rattle.ir_ast.specs.declared.types.Ty.{Ty}
use Rattle.ir_ast.specs.declared.ops.Operand.{Operand}
use Rattle.ir_ast.specs.Insts.{Instruction}
use Rattle.ir_ast.specs.Funcs.{Function}
use Rattle.ir_ast.specs.Types.{is_pointer}
use Rattle.ir_ast.specs.Values.{value_types}
use Rattle.ir_ast.specs.Faults.PhiEdges.{is_phi}
use Rattle.list_laws.proofs.Contents.{contains_first, contains_later}
use Rattle.object_meaning.specs.Lines.{Line, following, after_all, numbered, insts_in}
use Rattle.object_meaning.specs.TargetRuns.{plain_lines}
use Rattle.rewriting_forms.specs.Numbered.{among, lines_at, line_at, is_given, gives, is_call, pointers}
use Rattle.rewriting_forms.specs.Liveness.{is_use, any_held, uses_here, live_lines, is_live, is_live_after, live_list, lists_from}
use Rattle.rewriting_laws.proofs.NameLemmas.{line_is, among_filter, filter_among}
use Rattle.live_sets.specs.Sets.{is_in, AreMarked, Changed, HasMembers}
use Rattle.live_sets.specs.Uses.{names, uses, line_uses}
use Rattle.live_sets.specs.Starts.{first_of}
use Rattle.live_sets.specs.Ends.{lives_at_end}
use Rattle.live_sets.specs.Lists.{items_of, is_held, AddsList, AddsBlock, AtPlace}
use Rattle.ir_ast.specs.Blocks.{BasicBlock}
use Rattle.live_sets.proofs.UseLemmas.{uses_same, among_mark}
use Rattle.live_sets.proofs.SetLemmas.{keys_are, filter_both}
use Rattle.live_sets.proofs.EdgeLemmas.{among_has}
use Rattle.object_meaning.proofs.LineLaws.{after_push, plain_at, plain_count}
use Rattle.list_laws.proofs.Booleans.{same_tests}
use Rattle.list_laws.proofs.Places.{get_read, drop_whole}
use Rattle.list_laws.proofs.Tests.{any_same}
use Rattle.ir_ast.specs.Operands.{valued}
use Rattle.ir_ast.specs.Lists.{has_mark}

filter_same : {A : Type 0} (p q : A → Bool) (xs : List A) → ((x : A) → Contains xs x → p x ≡ q x) → filter p xs ≡ filter q xs
filter_same p q [] same = refl
filter_same p q (x ∷ xs) same =
    let here = same x (contains_first x xs) in
    let rest = filter_same p q xs (λ y has. same y (contains_later x y xs has)) in
    rw (here, rest) refl

pub named_given : (to : Option ℕ) (v : ℕ) → names (option_map valued to) v ≡ is_given to v
named_given None v = refl
named_given (Some x) v = refl

module _ (func : Function) (table : List Operand) (marks : List Bool) (right : marks ≡ map is_pointer (value_types func)) where
  held_same : (v : ℕ) (inst : Instruction) → any_held func table v inst ≡ is_held marks table v inst
  held_same v inst = any_same (λ (entry : Ty × Operand). is_use func table v entry.1) (λ (entry : Ty × Operand). uses marks table v entry.1) inst.bundle
      (λ entry. uses_same func marks right table v entry.1)

  here_same : (v : ℕ) (line : Line) → uses_here func table v line ≡ line_uses marks table v line.inst
  here_same v line =
      let operands = any_same (is_use func table v) (uses marks table v) line.inst.operands (λ o. uses_same func marks right table v o) in
      let bundle = held_same v line.inst in
      ap (λ (t : Bool). (not (is_phi line.inst.op) && t) || any_held func table v line.inst) operands
      ∙ ap (λ (t : Bool). (not (is_phi line.inst.op) && list_any (uses marks table v) line.inst.operands) || t) bundle

  -- what a bundle uses is used by its line
  held_uses : (t : Bool) (v : ℕ) (inst : Instruction) (given old : Bool)
      → (line_uses marks table v inst || (not given && ((t && is_held marks table v inst) || old))) ≡ (line_uses marks table v inst || (not given && old))
  held_uses t v inst given old = go (not (is_phi inst.op) && list_any (uses marks table v) inst.operands) (is_held marks table v inst) t given old
    where
      go : (a h t g o : Bool) → ((a || h) || (not g && ((t && h) || o))) ≡ ((a || h) || (not g && o))
      go true h t g o = refl
      go false true t g o = refl
      go false false true g o = refl
      go false false false g o = refl

  module _ (b : ℕ) where
    abbrev lines : List Line
    lines = lines_at func b

    abbrev live_at : ℕ → ℕ → Bool
    live_at place v = live_lines func table v (lives_at_end func table b v) (drop place lines)

    -- a line, and those behind it
    pub lines_split : (place : ℕ) (inst : Instruction) → slice_get (insts_in func b) place ≡ Some inst
        → drop place lines ≡ numbered (after_all (first_of func b) (take place (insts_in func b))) inst ∷ drop (suc place) lines
    lines_split place inst at = split lines place (numbered (after_all (first_of func b) (take place (insts_in func b))) inst) (plain_at (first_of func b) (insts_in func b) place inst at)
      where
        split : (xs : List Line) (k : ℕ) (x : Line) → slice_get xs k ≡ Some x → drop k xs ≡ x ∷ drop (suc k) xs
        split [] k x is = absurd (cc)
        split (y ∷ xs) zero x is = let e : y ≡ x = cc in ap (λ (z : Line). z ∷ xs) e
        split (y ∷ xs) (suc k) x is = split xs k x is

    -- whether it is live one line further to the front
    pub row_back : (place : ℕ) (inst : Instruction) (to : Option ValueId) (v : ℕ) (old mid new : Bool) → slice_get (insts_in func b) place ≡ Some inst
        → to ≡ option_map valued (numbered (after_all (first_of func b) (take place (insts_in func b))) inst).to
        → old ≡ live_at (suc place) v → mid ≡ ((is_call inst.op && is_held marks table v inst) || old)
        → new ≡ (line_uses marks table v inst || (not (names to v) && mid)) → new ≡ live_at place v
    row_back place inst to v old mid new at given was held now =
        let line = numbered (after_all (first_of func b) (take place (insts_in func b))) inst in
        now ∙ ap (λ (t : Bool). line_uses marks table v inst || (not (names to v) && t)) held
        ∙ held_uses (is_call inst.op) v inst (names to v) old
        ∙ ap (λ (t : Bool). line_uses marks table v inst || (not (names to v) && t)) was
        ∙ ap (λ (t : Option ValueId). line_uses marks table v inst || (not (names t v) && live_at (suc place) v)) given
        ∙ ap (λ (t : Bool). line_uses marks table v inst || (not t && live_at (suc place) v)) (named_given line.to v)
        ∙ ap (λ (t : Bool). t || (not (gives line v) && live_at (suc place) v)) (sym (here_same v line))
        ∙ sym (ap (live_lines func table v (lives_at_end func table b v)) (lines_split place inst at))

    -- the list of a call
    pub list_is_live : (place : ℕ) (inst : Instruction) (to : Option ValueId) (set : BTreeSet ℕ) → slice_get (insts_in func b) place ≡ Some inst
        → to ≡ option_map valued (numbered (after_all (first_of func b) (take place (insts_in func b))) inst).to
        → AreMarked marks set → IsStrictlySortedBy nat_cmp set.keys
        → ((v : ℕ) → has_mark marks v ≡ true → is_in set v ≡ (is_held marks table v inst || live_at (suc place) v))
        → map valued (filter (λ (v : ℕ). not (names to v)) set.keys) ≡ map valued (live_list func table b place)
    list_is_live place inst to set at given are ordered marked =
        ap (λ (keys : List ℕ). map valued (filter (λ (v : ℕ). not (names to v)) keys)) (keys_are func marks right set are ordered)
        ∙ ap (map valued) (filter_both (is_in set) (λ (v : ℕ). not (names to v)) (pointers func)
        ∙ filter_same (λ (v : ℕ). is_in set v && not (names to v)) (λ (v : ℕ). is_live_after func table b place v && not (gives (line_at func b place) v)) (pointers func)
        (λ v has. one v (sym (among_mark func marks right v) ∙ among_has (pointers func) v has)))
      where
        one : (v : ℕ) → has_mark marks v ≡ true
            → (is_in set v && not (names to v)) ≡ (is_live_after func table b place v && not (gives (line_at func b place) v))
        one v pointer =
            let line = numbered (after_all (first_of func b) (take place (insts_in func b))) inst in
            let stands = plain_at (first_of func b) (insts_in func b) place inst at in
            let here = line_is func b place line stands in
            let below = slice_get_within lines place line stands in
            let within : leb (suc place) (length lines) ≡ true = le-leb (suc place) (length lines) (omega arith) in
            ap (λ (t : Bool). t && not (names to v)) (marked v pointer)
            ∙ ap (λ (t : Option ValueId). (is_held marks table v inst || live_at (suc place) v) && not (names t v)) given
            ∙ ap (λ (t : Bool). (is_held marks table v inst || live_at (suc place) v) && not t) (named_given line.to v)
            ∙ ap (λ (t : Bool). (t || live_at (suc place) v) && not (gives line v)) (sym (held_same v inst))
            ∙ ap (λ (t : Bool). (any_held func table v inst || (t && live_at (suc place) v)) && not (gives line v)) (sym within)
            ∙ ap (λ (l : Line). (any_held func table v l.inst || is_live func table b (suc place) v) && not (gives l v)) (sym here)

    -- the lists from a place on, with those from the place behind it
    pub lists_back : (place : ℕ) (inst : Instruction) → slice_get (insts_in func b) place ≡ Some inst
        → reverse (map (map valued) (lists_from func table b place (drop place lines)))
        ≡ reverse (map (map valued) (lists_from func table b (suc place) (drop (suc place) lines))) ++ (if is_call inst.op then map valued (live_list func table b place) ∷ [] else [])
    lists_back place inst at =
        ap (λ (ls : List Line). reverse (map (map valued) (lists_from func table b place ls))) (lines_split place inst at)
        ∙ go (is_call inst.op) refl
      where
        go : (t : Bool) → is_call inst.op ≡ t
            → reverse (map (map valued) ((if is_call inst.op then live_list func table b place ∷ [] else []) ++ lists_from func table b (suc place) (drop (suc place) lines)))
            ≡ reverse (map (map valued) (lists_from func table b (suc place) (drop (suc place) lines))) ++ (if is_call inst.op then map valued (live_list func table b place) ∷ [] else [])
        go true is =
            let rest = map (map valued) (lists_from func table b (suc place) (drop (suc place) lines)) in
            ap (λ (t : Bool). reverse (map (map valued) ((if t then live_list func table b place ∷ [] else []) ++ lists_from func table b (suc place) (drop (suc place) lines)))) is
            ∙ reverse-append (map valued (live_list func table b place) ∷ []) rest
            ∙ sym (ap (λ (t : Bool). reverse rest ++ (if t then map valued (live_list func table b place) ∷ [] else [])) is)
        go false is =
            let rest = map (map valued) (lists_from func table b (suc place) (drop (suc place) lines)) in
            ap (λ (t : Bool). reverse (map (map valued) ((if t then live_list func table b place ∷ [] else []) ++ lists_from func table b (suc place) (drop (suc place) lines)))) is
            ∙ sym (append-nil (reverse rest))
            ∙ sym (ap (λ (t : Bool). reverse rest ++ (if t then map valued (live_list func table b place) ∷ [] else [])) is)

    -- at the end of the block there is none
    pub lists_none : lists_from func table b (length lines) (drop (length lines) lines) ≡ []
    lists_none = ap (lists_from func table b (length lines)) (past lines)
      where
        past : (xs : List Line) → drop (length xs) xs ≡ []
        past [] = refl
        past (x ∷ xs) = past xs

    -- nor where no instruction is a call
    pub no_lists : (n place : ℕ) (insts : List Instruction) → list_any (λ (inst : Instruction). is_call inst.op) insts ≡ false → lists_from func table b place (plain_lines n insts) ≡ []
    no_lists n place [] none = refl
    no_lists n place (inst ∷ insts) none = elim (cases_Bool (is_call inst.op)) [
      | inl is ↦ absurd (true≢false (sym (rw is refl) ∙ none))
      | inr not_one ↦
          let rest : list_any (λ (inst : Instruction). is_call inst.op) insts ≡ false = (let h = rw not_one at none in h) in
          ap (λ (t : Bool). (if t then live_list func table b place ∷ [] else []) ++ lists_from func table b (suc place) (plain_lines (following n inst) insts)) not_one
          ∙ no_lists (following n inst) (suc place) insts rest
    ]

    -- ---- a place of the block

    step_live : (p : ℕ) (inst : Instruction) (to : Option ValueId) (set mid new : BTreeSet ℕ) (old now next : List (Vec ValueId)) → slice_get (insts_in func b) p ≡ Some inst
        → to ≡ option_map valued (numbered (after_all (first_of func b) (take p (insts_in func b))) inst).to
        → AtPlace func table marks b (suc p) set old now → AddsList marks table inst to set mid now next
        → Changed marks mid new (λ (v : ℕ) (old : Bool). line_uses marks table v inst || (not (names to v) && old))
        → (v : ℕ) → has_mark marks v ≡ true → is_in new v ≡ live_at p v
    step_live p inst to set mid new old now next at given here added changed v pointer =
        row_back p inst to v (is_in set v) (is_in mid v) (is_in new v) at given (here.live v pointer) (added.set.each v pointer) (changed.each v pointer)

    pub step : (p : ℕ) (inst : Instruction) (to : Option ValueId) (set mid new : BTreeSet ℕ) (old now next : List (Vec ValueId)) → slice_get (insts_in func b) p ≡ Some inst
        → to ≡ option_map valued (numbered (after_all (first_of func b) (take p (insts_in func b))) inst).to
        → AtPlace func table marks b (suc p) set old now → AddsList marks table inst to set mid now next
        → Changed marks mid new (λ (v : ℕ) (old : Bool). line_uses marks table v inst || (not (names to v) && old))
        → AtPlace func table marks b p new old next
    step p inst to set mid new old now next at given here added changed = record {
      live = step_live p inst to set mid new old now next at given here added changed;
      marked = changed.marked (added.set.marked here.marked);
      listed =
          added.list ∙ ap (λ (xs : List (List ValueId)). xs ++ (if is_call inst.op then map valued (filter (λ (v : ℕ). not (names to v)) mid.keys) ∷ [] else [])) here.listed
          ∙ append_assoc (items_of old) behind (if is_call inst.op then map valued (filter (λ (v : ℕ). not (names to v)) mid.keys) ∷ [] else [])
          ∙ ap (λ (xs : List (List ValueId)). items_of old ++ (behind ++ xs)) (one (is_call inst.op) refl)
          ∙ ap (λ (xs : List (List ValueId)). items_of old ++ xs) (sym (lists_back p inst at));
    }
      where
        behind : List (List ValueId)
        behind = reverse (map (map valued) (lists_from func table b (suc p) (drop (suc p) lines)))

        one : (t : Bool) → is_call inst.op ≡ t
            → (if is_call inst.op then map valued (filter (λ (v : ℕ). not (names to v)) mid.keys) ∷ [] else [])
            ≡ (if is_call inst.op then map valued (live_list func table b p) ∷ [] else [])
        one false not_one = rw not_one refl
        one true is =
            let has : (v : ℕ) → has_mark marks v ≡ true → is_in mid v ≡ (is_held marks table v inst || live_at (suc p) v) =
            λ v pointer. (added.set.each v pointer
            ∙ ap (λ (t : Bool). (t && is_held marks table v inst) || is_in set v) is ∙ ap (λ (t : Bool). is_held marks table v inst || t) (here.live v pointer)) in
            let list = list_is_live p inst to mid at given (added.set.marked here.marked) (added.ordered is) has in
            rw is (ap (λ (xs : List ValueId). xs ∷ []) list)

    pub begun : (values : List ValueId) (set : BTreeSet ℕ) (old : List (Vec ValueId)) → values ≡ map valued (filter (lives_at_end func table b) (pointers func))
        → HasMembers marks values set → AtPlace func table marks b (length (insts_in func b)) set old old
    begun values set old are has =
        let long : length lines ≡ length (insts_in func b) = plain_count (first_of func b) (insts_in func b) in
        record {
          live = λ v pointer.
              has.each v pointer
              ∙ ap (list_any (λ (value : ValueId). eqb value.0 v)) are ∙ any_valued v (filter (lives_at_end func table b) (pointers func))
              ∙ same_tests (among v (filter (lives_at_end func table b) (pointers func))) (lives_at_end func table b v)
              (λ is. (among_filter (lives_at_end func table b) v (pointers func) is).1)
              (λ is. filter_among (lives_at_end func table b) v (pointers func) (among_mark func marks right v ∙ pointer) is)
              ∙ sym (ap (λ (n : ℕ). live_lines func table v (lives_at_end func table b v) (drop n lines)) (sym long) ∙ ap (live_lines func table v (lives_at_end func table b v)) (drop_whole lines));
          marked = has.marked;
          listed =
              sym (append-nil (items_of old))
              ∙ sym (ap (λ (xs : List (List ℕ)). items_of old ++ reverse (map (map valued) xs)) (ap (λ (n : ℕ). lists_from func table b n (drop n lines)) (sym long) ∙ lists_none));
        }
      where
        any_valued : (v : ℕ) (xs : List ℕ) → list_any (λ (value : ValueId). eqb value.0 v) (map valued xs) ≡ among v xs
        any_valued v [] = refl
        any_valued v (x ∷ xs) = ap (λ (t : Bool). eqb x v || t) (any_valued v xs)

    pub done : (place : ℕ) (set : BTreeSet ℕ) (old now : List (Vec ValueId)) → place ≡ 0 → AtPlace func table marks b place set old now → AddsBlock func table b old now
    done place set old now at_front here = here.listed ∙ ap (λ (n : ℕ). items_of old ++ reverse (map (map valued) (lists_from func table b n (drop n lines)))) at_front

    pub nothing_added : (old : List (Vec ValueId)) → list_any (λ (inst : Instruction). is_call inst.op) (insts_in func b) ≡ false → AddsBlock func table b old old
    nothing_added old none =
        sym (append-nil (items_of old)) ∙ sym (ap (λ (xs : List (List ℕ)). items_of old ++ reverse (map (map valued) xs)) (no_lists (first_of func b) 0 (insts_in func b) none))

-- ---- what was read of the function

pub read_insts : (func : Function) (b : ℕ) (blocks : List BasicBlock) (block : BasicBlock) (insts : List Instruction) → blocks ≡ func.blocks → b < length func.blocks
    → block ≡ get_or blocks b block → insts ≡ block.insts → insts_in func b ≡ insts
read_insts func b blocks block insts same below is own =
    let long = ap length same in
    let stands = ap (λ (bs : List BasicBlock). slice_get bs b) (sym same) ∙ get_read blocks b block (omega (arith, long, below)) is in
    ap (λ (o : Option BasicBlock). option_map_or (λ (block : BasicBlock). block.insts) o []) stands ∙ sym own

same_following : (n m : ℕ) (inst : Instruction) → following n inst ≡ following m inst → n ≡ m
same_following n m inst same = elim (cases_Bool (is_some inst.result)) [
  | inl some ↦ (let h : n + 1 ≡ m + 1 = (let g = rw some at same in g) in omega (arith, h))
  | inr none ↦ (let g = rw none at same in g)
]

take_one : (insts : List Instruction) (p : ℕ) (inst : Instruction) → slice_get insts p ≡ Some inst → take (suc p) insts ≡ take p insts ++ inst ∷ []
take_one [] p inst is = absurd (cc)
take_one (x ∷ insts) zero inst is = let e : x ≡ inst = cc in ap (λ (y : Instruction). y ∷ []) e
take_one (x ∷ insts) (suc p) inst is = ap (λ (xs : List Instruction). x ∷ xs) (take_one insts p inst is)

-- the number of the instruction before a place
pub number_before : (first n p : ℕ) (insts : List Instruction) (inst : Instruction) → slice_get insts p ≡ Some inst → following n inst ≡ after_all first (take (suc p) insts)
    → n ≡ after_all first (take p insts)
number_before first n p insts inst at is =
    same_following n (after_all first (take p insts)) inst (is ∙ ap (after_all first) (take_one insts p inst at) ∙ after_push first (take p insts) inst)

pub some_before : (first p : ℕ) (insts : List Instruction) (inst : Instruction) → slice_get insts p ≡ Some inst → is_some inst.result ≡ true → 0 < after_all first (take (suc p) insts)
some_before first p insts inst at some =
    let whole = ap (after_all first) (take_one insts p inst at) ∙ after_push first (take p insts) inst in
    let next : following (after_all first (take p insts)) inst ≡ after_all first (take p insts) + 1 = rw some refl in
    omega (arith, whole, next)

-- the lists of the blocks from one on
pub blocks_back : (func : Function) (table : List Operand) (number : ℕ) (old new : List (Vec ValueId)) → number < length func.blocks
    → items_of old ≡ reverse (map (map valued) (flat_map (λ (b : ℕ). lists_from func table b 0 (lines_at func b)) (range_with_len (suc number) (length func.blocks - suc number))))
    → AddsBlock func table number old new
    → items_of new ≡ reverse (map (map valued) (flat_map (λ (b : ℕ). lists_from func table b 0 (lines_at func b)) (range_with_len number (length func.blocks - number))))
blocks_back func table number old new below so_far added =
    let each = λ (b : ℕ). lists_from func table b 0 (lines_at func b) in
    let rest = range_with_len (suc number) (length func.blocks - suc number) in
    let e : length func.blocks - number ≡ suc (length func.blocks - suc number) = omega arith in
    let next : number + 1 ≡ suc number = omega arith in
    let range : range_with_len number (length func.blocks - number) ≡ number ∷ rest =
    ap (range_with_len number) e ∙ ap (λ (n : ℕ). number ∷ range_with_len n (length func.blocks - suc number)) next in
    added ∙ ap (λ (xs : List (List ValueId)). xs ++ reverse (map (map valued) (each number))) so_far
    ∙ sym (reverse-append (map (map valued) (each number)) (map (map valued) (flat_map each rest)))
    ∙ ap reverse (sym (map-append (map valued) (each number) (flat_map each rest)))
    ∙ sym (ap (λ (bs : List ℕ). reverse (map (map valued) (flat_map each bs))) range)
