-- The bundles of calls and statepoints on their lines.
use Rattle.std.proofs.Common.{◌≡◌, refl, sym, subst, ℕ, ◌≤◌, true, false, List, Option, [], ◌∷◌, ◌++◌, length, map, codes, append_assoc}
use Rattle.std.specs.List.{AllByRecursion}
use Rattle.std.proofs.lemmas.Bool.{le-leb}
use Rattle.std.proofs.lemmas.List.{length-map}
use Rattle.std.proofs.lemmas.List.Elements.{All-from_recursion}
use Rattle.sp_text.specs.Tokens.{Tok, tokens}
use Rattle.ir_ast.specs.declared.types.Ty.{Ty}
use Rattle.ir_ast.specs.declared.types.Ty.TheVariants as tys
use Rattle.ir_ast.specs.declared.ops.Operand.{Operand}
use Rattle.ir_ast.specs.Operands.{is_value}
use Rattle.ir_ast.specs.Values.{value_types}
use Rattle.ir_ast.specs.Faults.TypeClash.{Fits}
use Rattle.ir_printer.specs.Lists.{joined}
use Rattle.ir_printer.specs.Names.{Names}
use Rattle.ir_printer.specs.Operands.{typed_text}
use Rattle.ir_printer.specs.Calls.{bundles_text}
use Rattle.ir_reader.specs.Limits.{item_fits}
use Rattle.line_tokens.specs.declared.words.Dropped.TheVariants as drops
use Rattle.line_parts.specs.Lists.{comma}
use Rattle.line_tokens.specs.Marks.{is_mark, begins}
use Rattle.line_parts.specs.Bundles.{kept_entry_at, live_entry_at}
use Rattle.line_forms.specs.Slots.{Item, Slot, deopt, bundles}
use Rattle.read_back.specs.Said.{value_says, kept_says}
use Rattle.read_back.proofs.Steps.{Reads, first_of, end, spaced, drop_at, drop_end}
use Rattle.read_back.proofs.Spellings.{pointer_type}
use Rattle.read_back.proofs.Listed.{SpellsElement}
use Rattle.read_back.proofs.ListForms.{EndsAtMark, call_end, passed_opens}
use Rattle.read_back.proofs.GroupForms.{bundles_end}
use Rattle.read_back.proofs.BundleSteps.{kept_element, live_element, no_deopt, no_bundles, deopt_step, kept_step, live_step, both_step}
use Rattle.read_back.proofs.BackNames.{IsKept}
use Rattle.read_back.proofs.Operands.{HaveNames, narrow_of, type_spelled, type_allowed, value_spelled}

-- ---- what is kept

abbrev kept_text : Names → Ty × Operand → List ℕ
kept_text names entry = typed_text names entry.0 entry.1

each_kept : (names : Names) → HaveNames names → (bundle : List (Ty × Operand)) → AllByRecursion (IsKept names) bundle
    → AllByRecursion (λ entry. SpellsElement kept_entry_at comma EndsAtMark (kept_text names entry) (kept_says names entry)) bundle
each_kept names have [] all = tt
each_kept names have (entry ∷ bundle) all =
    let good = all.0.good in
    let narrow = narrow_of entry.0 good.widths in (
      kept_element (type_spelled entry.0 all.0.first_class narrow) (type_allowed entry.0 all.0.first_class) (value_spelled names have entry.0 narrow entry.1 good.value good.fits),
      each_kept names have bundle all.1,
    )

each_kept_opens : (names : Names) → HaveNames names → (bundle : List (Ty × Operand)) → AllByRecursion (IsKept names) bundle
    → AllByRecursion (λ entry. (rest : List ℕ) → EndsAtMark rest → begins (is_mark (codes ")")) (tokens (kept_text names entry ++ rest)) ≡ false) bundle
each_kept_opens names have [] all = tt
each_kept_opens names have (entry ∷ bundle) all =
    let good = all.0.good in
    let narrow = narrow_of entry.0 good.widths in (
      λ rest ends. passed_opens (type_spelled entry.0 all.0.first_class narrow) (value_spelled names have entry.0 narrow entry.1 good.value good.fits) rest ends,
      each_kept_opens names have bundle all.1,
    )

-- ---- what is live

-- a live entry: a pointer or `null`
pub record IsLive (names : Names) (entry : Operand) : Type 0 where
  pub value : is_value entry ≡ true
  pub fits : Fits (value_types names.func) entry tys.Ptr

abbrev live_text : Names → Operand → List ℕ
live_text names entry = typed_text names tys.Ptr entry

each_live : (names : Names) → HaveNames names → (entries : List Operand) → AllByRecursion (IsLive names) entries
    → AllByRecursion (λ entry. SpellsElement live_entry_at comma EndsAtMark (live_text names entry) (value_says names tys.Ptr entry)) entries
each_live names have [] all = tt
each_live names have (entry ∷ entries) all = (live_element (value_spelled names have tys.Ptr tt entry all.0.value all.0.fits), each_live names have entries all.1)

each_live_opens : (names : Names) → HaveNames names → (entries : List Operand) → AllByRecursion (IsLive names) entries
    → AllByRecursion (λ entry. (rest : List ℕ) → EndsAtMark rest → begins (is_mark (codes ")")) (tokens (live_text names entry ++ rest)) ≡ false) entries
each_live_opens names have [] all = tt
each_live_opens names have (entry ∷ entries) all =
    (λ rest ends. passed_opens pointer_type (value_spelled names have tys.Ptr tt entry all.0.value all.0.fits) rest ends, each_live_opens names have entries all.1)

-- ---- brackets

-- a text as it is printed, which is read in another shape
abbrev As : List Slot → List ℕ → List Item → Type 0
As slots text items = Reads slots text (first_of (tokens text)) items

shaped : {slots : List Slot} {text spelled : List ℕ} {first : Option Tok} {items : List Item} → text ≡ spelled → Reads slots spelled first items → As slots text items
shaped {slots} {items = items} same r = subst (λ (t : List ℕ). As slots t items) (sym same) (record { whole = r.whole; begins = refl; clean = r.clean })

kept_shape : (body : List ℕ) → codes " [ " ++ ((codes "\"deopt\"(" ++ (body ++ codes ")")) ++ codes " ]") ≡ codes " [ \"deopt\"(" ++ (body ++ codes ") ]")
kept_shape body = simp append_assoc

live_shape : (body : List ℕ) → codes " [ " ++ ((codes "\"gc-live\"(" ++ (body ++ codes ")")) ++ codes " ]") ≡ codes " [ \"gc-live\"(" ++ (body ++ codes ") ]")
live_shape body = simp append_assoc

both_shape : (kept live : List ℕ)
    → codes " [ " ++ ((codes "\"deopt\"(" ++ (kept ++ codes ")")) ++ (codes ", " ++ ((codes "\"gc-live\"(" ++ (live ++ codes ")")) ++ codes " ]")))
    ≡ codes " [ \"deopt\"(" ++ (kept ++ (codes "), \"gc-live\"(" ++ (live ++ codes ") ]")))
both_shape kept live = simp append_assoc

-- what a call keeps
pub call_kept : (names : Names) → HaveNames names → (bundle : List (Ty × Operand)) → AllByRecursion (IsKept names) bundle
    → As call_end (bundles_text names bundle []) (deopt (map (kept_says names) bundle) ∷ [])
call_kept names have [] all = shaped refl (drop_end drops.Groups (no_deopt (drop_end drops.Attachments end)))
call_kept names have (entry ∷ bundle) all =
    shaped (kept_shape (joined (codes ", ") (map (kept_text names) (entry ∷ bundle))))
    (spaced (drop_at drops.Groups (λ more. refl) (deopt_step (kept_text names) (kept_says names) (entry ∷ bundle)
    (All-from_recursion _ (entry ∷ bundle) (each_kept names have (entry ∷ bundle) all)) (All-from_recursion _ (entry ∷ bundle) (each_kept_opens names have (entry ∷ bundle) all)) (drop_end drops.Attachments end))))

-- what a statepoint keeps, and its live entries
pub statepoint_kept : (names : Names) → HaveNames names → (bundle : List (Ty × Operand)) (entries : List Operand) → AllByRecursion (IsKept names) bundle → AllByRecursion (IsLive names) entries
    → As bundles_end (bundles_text names bundle entries) (bundles (map (kept_says names) bundle) (map (value_says names tys.Ptr) entries) ∷ [])
statepoint_kept names have [] [] kept live = shaped refl (drop_end drops.Groups (no_bundles (drop_end drops.Attachments end)))
statepoint_kept names have [] (l ∷ ls) kept live =
    shaped (live_shape (joined (codes ", ") (map (live_text names) (l ∷ ls))))
    (spaced (drop_at drops.Groups (λ more. refl) (live_step (live_text names) (value_says names tys.Ptr) (l ∷ ls)
    (All-from_recursion _ (l ∷ ls) (each_live names have (l ∷ ls) live)) (All-from_recursion _ (l ∷ ls) (each_live_opens names have (l ∷ ls) live)) (drop_end drops.Attachments end))))
statepoint_kept names have (k ∷ ks) [] kept live =
    shaped (kept_shape (joined (codes ", ") (map (kept_text names) (k ∷ ks))))
    (spaced (drop_at drops.Groups (λ more. refl) (kept_step (kept_text names) (kept_says names) (k ∷ ks)
    (All-from_recursion _ (k ∷ ks) (each_kept names have (k ∷ ks) kept)) (All-from_recursion _ (k ∷ ks) (each_kept_opens names have (k ∷ ks) kept)) (drop_end drops.Attachments end))))
statepoint_kept names have (k ∷ ks) (l ∷ ls) kept live =
    shaped (both_shape (joined (codes ", ") (map (kept_text names) (k ∷ ks))) (joined (codes ", ") (map (live_text names) (l ∷ ls))))
    (spaced (drop_at drops.Groups (λ more. refl) (both_step (kept_text names) (kept_says names) (k ∷ ks) (live_text names) (value_says names tys.Ptr) (l ∷ ls)
    (All-from_recursion _ (k ∷ ks) (each_kept names have (k ∷ ks) kept)) (All-from_recursion _ (k ∷ ks) (each_kept_opens names have (k ∷ ks) kept))
    (All-from_recursion _ (l ∷ ls) (each_live names have (l ∷ ls) live)) (All-from_recursion _ (l ∷ ls) (each_live_opens names have (l ∷ ls) live)) (drop_end drops.Attachments end))))

-- ---- limits

pub deopt_in_limit : (names : Names) (bundle : List (Ty × Operand)) → length bundle ≤ 64 → item_fits (deopt (map (kept_says names) bundle)) ≡ true
deopt_in_limit names bundle few = rw (length-map bundle (kept_says names), le-leb (length bundle) 64 few) refl

pub bundles_in_limit : (names : Names) (bundle : List (Ty × Operand)) (entries : List Operand) → length bundle ≤ 64 → length entries ≤ 16384
    → item_fits (bundles (map (kept_says names) bundle) (map (value_says names tys.Ptr) entries)) ≡ true
bundles_in_limit names bundle entries few live =
    rw (length-map bundle (kept_says names), length-map entries (value_says names tys.Ptr), le-leb (length bundle) 64 few, le-leb (length entries) 16384 live) refl
