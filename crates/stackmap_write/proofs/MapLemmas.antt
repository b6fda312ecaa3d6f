-- The parts that are written make the whole map.
use Rattle.std.proofs.Common.{◌≡◌, ◌∙◌, ℕ, ◌≤◌, List, [], ◌++◌, length, drop, ap, sym, append_assoc}
use Rattle.std.specs.List.{flat_map}
use Rattle.std.proofs.lemmas.List.{append-nil}
use Rattle.std.proofs.Math.ListN.{drop_of_length-le}
use Rattle.byteorder.specs.Endian.{little_bytes}
use Rattle.ir_ast.specs.Funcs.{Function}
use Rattle.ir_ast.specs.Modules.{ModuleContent}
use Rattle.frame_forms.specs.ModuleLayouts.{FunctionLayout, layout_of}
use Rattle.map_bytes.specs.Maps.{counted_records, function_bytes, header_bytes, map_bytes, record_bytes}
use Rattle.map_bytes.proofs.PartLaws.{map_bytes-parts}
use Rattle.stackmap_write.specs.Constants.{constants_of}
use Rattle.stackmap_write.specs.ModuleMaps.{entries_of, map_of, records_of}
use Rattle.stackmap_write.specs.Writing.{header_of}

abbrev heads_of : ℕ → List FunctionLayout → List ℕ
heads_of constants laid = header_of (length (entries_of laid)) constants (counted_records (entries_of laid)) ++ flat_map function_bytes (entries_of laid)

header_is : (content : ModuleContent) → counted_records (entries_of (layout_of content)) ≡ length (flat_map (records_of (constants_of content)) content.funcs)
    → header_of (length (entries_of (layout_of content))) (length (constants_of content)) (counted_records (entries_of (layout_of content))) ≡ header_bytes (map_of content)
unfolding header_bytes
header_is content counted = ap (header_of (length (entries_of (layout_of content))) (length (constants_of content))) counted

-- nothing is left behind the last function
pub at_end : (constants done all : List ℕ) (contents : List Function) (k : ℕ) → length contents ≤ k
    → done ++ flat_map record_bytes (flat_map (records_of constants) (drop k contents)) ≡ all → done ≡ all
at_end constants done all contents k over known =
    sym (append-nil done)
    ∙ ap (λ (rest : List Function). done ++ flat_map record_bytes (flat_map (records_of constants) rest)) (sym (drop_of_length-le contents over)) ∙ known

pub written : (content : ModuleContent) (laid : List FunctionLayout) (constants : ℕ) (none start listed bytes : List ℕ) → laid ≡ layout_of content
    → constants ≡ length (constants_of content)
    → counted_records (entries_of (layout_of content)) ≡ length (flat_map (records_of (constants_of content)) content.funcs)
    → none ≡ [] → start ≡ none ++ heads_of constants laid → listed ≡ start ++ flat_map (little_bytes 8) (constants_of content)
    → bytes ≡ listed ++ flat_map record_bytes (flat_map (records_of (constants_of content)) content.funcs)
    → bytes ≡ map_bytes (map_of content)
written content laid constants none start listed bytes same many counted empty heads numbers whole =
    let records : List ℕ = flat_map record_bytes (flat_map (records_of (constants_of content)) content.funcs) in
    let entries : List ℕ = flat_map function_bytes (entries_of (layout_of content)) in
    let middle : List ℕ = flat_map (little_bytes 8) (constants_of content) in
    let front : start ≡ header_bytes (map_of content) ++ entries
    = heads ∙ ap (λ (first : List ℕ). first ++ heads_of constants laid) empty ∙ ap (heads_of constants) same
    ∙ ap (λ (n : ℕ). heads_of n (layout_of content)) many ∙ ap (λ (header : List ℕ). header ++ entries) (header_is content counted) in
    whole ∙ ap (λ (first : List ℕ). first ++ records) (numbers ∙ ap (λ (first : List ℕ). first ++ middle) front)
    ∙ append_assoc (header_bytes (map_of content) ++ entries) middle records
    ∙ append_assoc (header_bytes (map_of content)) entries (middle ++ records)
    ∙ sym (map_bytes-parts (map_of content))
