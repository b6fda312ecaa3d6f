-- The lines of a function that are no labels are those of its blocks.
use Rattle.std.proofs.Common.{◌≡◌, ◌∙◌, ℕ, ◌⊎◌, inl, inr, Bool, true, false, List, [], ◌∷◌, ◌++◌, refl, ap, sym, subst}
use Rattle.std.specs.Prelude.{Option, Some, None, decimal, if◌then◌else◌}
use Rattle.std.specs.List.{Contains}
use Rattle.std.proofs.lemmas.List.Elements.{Contains-append_cases, Contains-append_left, Contains-append_right}
use Rattle.list_laws.proofs.Contents.{contains_cons, contains_first, contains_later, contains_none, contains_one}
use Rattle.ir_lines.specs.Statements.{Line, Statement, label}
use Rattle.ir_lines.specs.Sections.{Definition, BlockLines, is_label, label_said, until_label, block_at, labelled_blocks, first_block, blocks_of, count_numbered}
use Rattle.ir_resolve.proofs.Bodies.{until-label, until-other}

-- a line stands in one of these blocks
pub record IsIn (blocks : List BlockLines) (l : Line) : Type 0 where
  pub block : BlockLines
  pub inside : Contains blocks block
  pub here : Contains block.lines l

in-more : (blocks more : List BlockLines) (l : Line) → IsIn more l → IsIn (blocks ++ more) l
in-more blocks more l i = record { block = i.block; inside = Contains-append_right blocks more i.block i.inside; here = i.here }

-- ---- from the lines to the blocks

to-blocks : (ls : List Line) (l : Line) → is_label l.says ≡ false → Contains ls l → Contains (until_label ls) l ⊎ IsIn (labelled_blocks ls) l
to-blocks [] l plain within = absurd (contains_none l within)
to-blocks (m ∷ ms) l plain within = by m.says refl (contains_cons m l ms within) (to-blocks ms l plain)
  where
    behind : (n : ℕ) (name : List ℕ) → Contains (until_label ms) l ⊎ IsIn (labelled_blocks ms) l → IsIn (block_at n (label_said (label name)) ms ++ labelled_blocks ms) l
    behind n name (inl i) = record {
      block = record { line = n; name = name; lines = until_label ms };
      inside = contains_first (record { line = n; name = name; lines = until_label ms }) (labelled_blocks ms);
      here = i;
    }
    behind n name (inr i) = in-more (block_at n (label_said (label name)) ms) (labelled_blocks ms) l i

    other : is_label m.says ≡ false → (m ≡ l) ⊎ Contains ms l → (Contains ms l → Contains (until_label ms) l ⊎ IsIn (labelled_blocks ms) l)
        → Contains (until_label (m ∷ ms)) l ⊎ IsIn (block_at m.number (label_said m.says) ms ++ labelled_blocks ms) l
    other e (inl same) ih =
        inl (subst (λ (xs : List Line). Contains xs l) (sym (until-other m ms e)) (subst (λ (k : Line). Contains (m ∷ until_label ms) k) same (contains_first m (until_label ms))))
    other e (inr later) ih = elim (ih later) [
      | inl i ↦ inl (subst (λ (xs : List Line). Contains xs l) (sym (until-other m ms e)) (contains_later m l (until_label ms) i))
      | inr i ↦ inr (in-more (block_at m.number (label_said m.says) ms) (labelled_blocks ms) l i)
    ]

    by : (s : Statement) → m.says ≡ s → (m ≡ l) ⊎ Contains ms l → (Contains ms l → Contains (until_label ms) l ⊎ IsIn (labelled_blocks ms) l)
        → Contains (until_label (m ∷ ms)) l ⊎ IsIn (block_at m.number (label_said m.says) ms ++ labelled_blocks ms) l
    by (label name) e (inl same) ih =
        absurd (let yes : is_label l.says ≡ true = subst (λ (k : Line). is_label k.says ≡ true) same (subst (λ (t : Statement). is_label t ≡ true) (sym e) refl) in
        let bad : true ≡ false = sym yes ∙ plain in cc)
    by (label name) e (inr later) ih =
        inr (subst (λ (s : Statement). IsIn (block_at m.number (label_said s) ms ++ labelled_blocks ms) l) (sym e) (behind m.number name (ih later)))
    by s e at ih = other (subst (λ (t : Statement). is_label t ≡ false) (sym e) refl) at ih

first-of : (func : Definition) (ls : List Line) (l : Line) → Contains (until_label ls) l → IsIn (first_block func ls) l
first-of func [] l within = absurd (contains_none l within)
first-of func (m ∷ ms) l within = by (is_label m.says) refl
  where
    by : (b : Bool) → is_label m.says ≡ b
        → IsIn (if is_label m.says then [] else record { line = func.line; name = decimal (count_numbered func.arguments); lines = until_label (m ∷ ms) } ∷ []) l
    by true e = absurd (contains_none l (subst (λ (xs : List Line). Contains xs l) (until-label m ms e) within))
    by false e =
        subst (λ (b : Bool). IsIn (if b then [] else record { line = func.line; name = decimal (count_numbered func.arguments); lines = until_label (m ∷ ms) } ∷ []) l) (sym e) (record {
          block = record { line = func.line; name = decimal (count_numbered func.arguments); lines = until_label (m ∷ ms) };
          inside = contains_first (record { line = func.line; name = decimal (count_numbered func.arguments); lines = until_label (m ∷ ms) }) [];
          here = within;
        })

pub line-in-block : (func : Definition) (l : Line) → is_label l.says ≡ false → Contains func.body l → IsIn (blocks_of func) l
line-in-block func l plain within = elim (to-blocks func.body l plain within) [
  | inl i ↦ (let f = first-of func func.body l i in
      record { block = f.block; inside = Contains-append_left (first_block func func.body) (labelled_blocks func.body) f.block f.inside; here = f.here })
  | inr i ↦ in-more (first_block func func.body) (labelled_blocks func.body) l i
]

-- ---- and back

until-in : (ls : List Line) (l : Line) → Contains (until_label ls) l → Contains ls l
until-in [] l within = absurd (contains_none l within)
until-in (m ∷ ms) l within = by (is_label m.says) refl (until-in ms l)
  where
    by : (b : Bool) → is_label m.says ≡ b → (Contains (until_label ms) l → Contains ms l) → Contains (m ∷ ms) l
    by true e ih = absurd (contains_none l (subst (λ (xs : List Line). Contains xs l) (until-label m ms e) within))
    by false e ih = elim (contains_cons m l (until_label ms) (subst (λ (xs : List Line). Contains xs l) (until-other m ms e) within)) [
      | inl same ↦ subst (λ (k : Line). Contains (m ∷ ms) k) same (contains_first m ms)
      | inr later ↦ contains_later m l ms (ih later)
    ]

at-lines : (n : ℕ) (name : Option (List ℕ)) (ms : List Line) (block : BlockLines) → Contains (block_at n name ms) block → until_label ms ≡ block.lines
at-lines n None ms block within = absurd (contains_none block within)
at-lines n (Some name) ms block within =
    ap (λ (b : BlockLines). b.lines) (contains_one (record { line = n; name = name; lines = until_label ms }) block within)

labelled-in : (ls : List Line) (block : BlockLines) → Contains (labelled_blocks ls) block → (l : Line) → Contains block.lines l → Contains ls l
labelled-in [] block within l here = absurd (contains_none block within)
labelled-in (m ∷ ms) block within l here = elim (Contains-append_cases (block_at m.number (label_said m.says) ms) (labelled_blocks ms) block within) [
  | inl own ↦ contains_later m l ms
      (until-in ms l (subst (λ (xs : List Line). Contains xs l) (sym (at-lines m.number (label_said m.says) ms block own)) here))
  | inr more ↦ contains_later m l ms (labelled-in ms block more l here)
]

first-in : (func : Definition) (ls : List Line) (block : BlockLines) → Contains (first_block func ls) block → (l : Line) → Contains block.lines l → Contains ls l
first-in func [] block within l here = absurd (contains_none block within)
first-in func (m ∷ ms) block within l here = by (is_label m.says) within
  where
    by : (b : Bool) → Contains (if b then [] else record { line = func.line; name = decimal (count_numbered func.arguments); lines = until_label (m ∷ ms) } ∷ []) block
        → Contains (m ∷ ms) l
    by true none = absurd (contains_none block none)
    by false one =
        let same = contains_one (record { line = func.line; name = decimal (count_numbered func.arguments); lines = until_label (m ∷ ms) }) block one in
        until-in (m ∷ ms) l (subst (λ (xs : List Line). Contains xs l) (sym (ap (λ (b : BlockLines). b.lines) same)) here)

pub block-in-body : (func : Definition) (block : BlockLines) → Contains (blocks_of func) block → (l : Line) → Contains block.lines l → Contains func.body l
block-in-body func block within l here = elim (Contains-append_cases (first_block func func.body) (labelled_blocks func.body) block within) [
  | inl first ↦ first-in func func.body block first l here
  | inr labelled ↦ labelled-in func.body block labelled l here
]

pub label-is : (s : Statement) → is_label s ≡ true → (name : List ℕ) × (s ≡ label name)
label-is (label name) e = (name, refl)
label-is _ e = absurd (let bad : false ≡ true = e in cc)
