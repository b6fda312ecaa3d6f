-- Tables that grow keep what their entries speak of.
use Rattle.std.proofs.Common.{◌≡◌, ◌∙◌, ℕ, suc, ◌+◌, ◌-◌, ◌≤◌, List, [], ◌∷◌, ◌++◌, length, take, drop, map, refl, ap, arith, length-append, length-drop}
use Rattle.std.proofs.lemmas.List.{take-append-le, drop-append-le, map-append}
use Rattle.std.proofs.Math.Seq.{drop-append_seam, take-length}
use Rattle.ir_ast.specs.Funcs.{Function, instructions_of}
use Rattle.frame_forms.specs.BundleWords.{BundleWords, bundles_from}
use Rattle.frame_forms.specs.CodeAddresses.{return_offsets}
use Rattle.frame_forms.specs.FrameSizes.{frame_bytes}
use Rattle.frame_forms.specs.ModuleLayouts.{FunctionLayout, laid_at, statepoints_of}
use Rattle.frame_slots.specs.declared.entries.Entry.{Entry}
use Rattle.frame_slots.specs.Tables.{returns_in, layout_in, layouts_in, words_of, AreWithin}

returns_kept : (returns more : List ℕ) (entry : Entry) → entry.first + entry.count ≤ length returns
    → returns_in (returns ++ more) entry ≡ returns_in returns entry
returns_kept returns more entry within =
    let first : entry.first ≤ length returns = omega arith in
    let rest : entry.count ≤ length (drop entry.first returns) = omega (arith, length-drop entry.first returns) in
    ap (take entry.count) (drop-append-le entry.first returns more first) ∙ take-append-le entry.count (drop entry.first returns) more rest

layout_kept : (returns more : List ℕ) (entry : Entry) → entry.first + entry.count ≤ length returns
    → layout_in (returns ++ more) entry ≡ layout_in returns entry
layout_kept returns more entry within =
    let with_returns : List ℕ → FunctionLayout = λ rs. record { address = entry.address; frame_bytes = entry.frame_bytes; statepoints = entry.statepoints; returns = rs; bundles = map words_of entry.bundles.items } in
    ap with_returns (returns_kept returns more entry within)

pub layouts_kept : (returns more : List ℕ) (entries : List Entry) → AreWithin returns entries
    → layouts_in (returns ++ more) entries ≡ layouts_in returns entries
layouts_kept returns more [] within = refl
layouts_kept returns more (entry ∷ entries) within =
    ap (λ (one : FunctionLayout). one ∷ layouts_in (returns ++ more) entries) (layout_kept returns more entry (within 0 entry (omega arith)))
    ∙ ap (λ rest. layout_in returns entry ∷ rest)
    (layouts_kept returns more entries (λ k d below. within (suc k) d (omega arith)))

-- what an entry behind the others speaks of
pub returns_pushed : (returns more : List ℕ) (entry : Entry) → entry.first ≡ length returns → entry.count ≡ length more
    → returns_in (returns ++ more) entry ≡ more
returns_pushed returns more entry first count =
    ap (λ n. take entry.count (drop n (returns ++ more))) first
    ∙ ap (take entry.count) (drop-append_seam returns more)
    ∙ ap (λ n. take n more) count ∙ take-length more

abbrev record_of_layout : ℕ → ℕ → ℕ → List ℕ → List BundleWords → FunctionLayout
record_of_layout address bytes count offsets words = record { address = address; frame_bytes = bytes; statepoints = count; returns = offsets; bundles = words }

-- one more entry, whose return offsets stand last
pub layouts_pushed : (returns more : List ℕ) (entries : List Entry) (entry : Entry) → AreWithin returns entries
    → entry.first ≡ length returns → entry.count ≡ length more
    → layouts_in (returns ++ more) (entries ++ entry ∷ [])
    ≡ layouts_in returns entries ++ record { address = entry.address; frame_bytes = entry.frame_bytes; statepoints = entry.statepoints; returns = more; bundles = map words_of entry.bundles.items } ∷ []
layouts_pushed returns more entries entry within first count =
    let with_returns : List ℕ → FunctionLayout = λ rs. record { address = entry.address; frame_bytes = entry.frame_bytes; statepoints = entry.statepoints; returns = rs; bundles = map words_of entry.bundles.items } in
    map-append (layout_in (returns ++ more)) entries (entry ∷ [])
    ∙ ap (λ front. front ++ layout_in (returns ++ more) entry ∷ []) (layouts_kept returns more entries within)
    ∙ ap (λ rs. layouts_in returns entries ++ with_returns rs ∷ []) (returns_pushed returns more entry first count)

same_layout : (start bytes count : ℕ) (address frame_bytes_is statepoints : ℕ) (words words_are : List BundleWords) → address ≡ start → frame_bytes_is ≡ bytes
    → statepoints ≡ count → words_are ≡ words → (returns : List ℕ)
    → record_of_layout address frame_bytes_is statepoints returns words_are ≡ record_of_layout start bytes count returns words
same_layout start bytes count address frame_bytes_is statepoints words words_are a f n w returns =
    ap (λ x. record_of_layout x frame_bytes_is statepoints returns words_are) a ∙ ap (λ x. record_of_layout start x statepoints returns words_are) f
    ∙ ap (λ x. record_of_layout start bytes x returns words_are) n ∙ ap (record_of_layout start bytes count returns) w

-- one more function
pub add_step : (func : Function) (start : ℕ) (returns new_returns : List ℕ) (entries new_entries : List Entry) (entry : Entry)
    → AreWithin returns entries → new_returns ≡ returns ++ return_offsets func → new_entries ≡ entries ++ entry ∷ []
    → entry.address ≡ start → entry.frame_bytes ≡ frame_bytes func → entry.statepoints ≡ statepoints_of func
    → entry.first ≡ length returns → entry.count ≡ length new_returns - length returns
    → map words_of entry.bundles.items ≡ bundles_from 0 (instructions_of func.blocks)
    → layouts_in new_returns new_entries ≡ layouts_in returns entries ++ laid_at start func ∷ []
add_step func start returns new_returns entries new_entries entry within grown pushed address bytes statepoints first count words =
    let longer : length new_returns ≡ length returns + length (return_offsets func) = ap length grown ∙ length-append returns (return_offsets func) in
    let counted : entry.count ≡ length (return_offsets func) = omega arith in
    ap (λ rs. layouts_in rs new_entries) grown ∙ ap (layouts_in (returns ++ return_offsets func)) pushed
    ∙ layouts_pushed returns (return_offsets func) entries entry within first counted
    ∙ ap (λ one. layouts_in returns entries ++ one ∷ [])
    (same_layout start (frame_bytes func) (statepoints_of func) entry.address entry.frame_bytes entry.statepoints (bundles_from 0 (instructions_of func.blocks)) (map words_of entry.bundles.items)
    address bytes statepoints words (return_offsets func))
