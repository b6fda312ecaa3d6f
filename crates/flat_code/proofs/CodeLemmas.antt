-- The segments of a decoded module.
use Rattle.std.proofs.Common.{◌≡◌, ℕ, zero, suc, ◌+◌, ◌≤◌, List, [], ◌∷◌, length, map, drop, refl, sym, ap, subst, ◌∙◌, get_or, inl, inr, ◌⊎◌, arith}
use Rattle.std.specs.Prelude.{Option, Some, None, MatchOption, slice_get}
use Rattle.std.specs.Option.{option_map, option_map_or}
use Rattle.std.proofs.lemmas.Option.{slice_get_past, slice_get_within}
use Rattle.ir_ast.specs.Layouts.{ObjectLayout}
use Rattle.ir_ast.specs.Funcs.{Function as IrFunction, LinedFunction, content_of}
use Rattle.ir_ast.specs.Modules.{ModuleContent}
use Rattle.flat_code.specs.declared.spots.Spot.{Spot}
use Rattle.flat_code.specs.declared.lines.Exit.{Exit}
use Rattle.flat_code.specs.declared.lines.Function.{Function}
use Rattle.flat_code.specs.declared.lines.Segment.{Segment}
use Rattle.flat_code.specs.Spots.{lines_at}
use Rattle.flat_code.specs.Segments.{IsExit, IsSegment, Leads, first_spot, AreChained, StartsAt, IsFunction}
use Rattle.flat_code.specs.Codes.{FlatModule, defined_at, function_at, segment_at, block_at, front_lines, Leaves, Fits, AreDecoded, AreFunctions}
use Rattle.list_laws.proofs.Numbers.{one_more}

-- what a segment of a chain is, and what it leads to
chained_is : (layouts : List ObjectLayout) (defined : Option IrFunction) (segments : List Segment) (last : Option Spot) (place : ℕ) (segment : Segment)
    → AreChained layouts defined segments last → slice_get segments place ≡ Some segment → IsSegment layouts defined segment
chained_is layouts defined [] last place segment chained is = absurd (let no : None ≡ Some segment = is in cc)
chained_is layouts defined (first ∷ segments) last zero segment chained is = subst (IsSegment layouts defined) (let e : first ≡ segment = cc in e) chained.0
chained_is layouts defined (first ∷ segments) last (suc place) segment chained is = chained_is layouts defined segments last place segment chained.2 is

chained_leads : (layouts : List ObjectLayout) (defined : Option IrFunction) (segments : List Segment) (last : Option Spot) (place : ℕ) (segment : Segment)
    → AreChained layouts defined segments last → slice_get segments place ≡ Some segment
    → Leads defined segment segment.exit (first_spot (drop (suc place) segments) last)
chained_leads layouts defined [] last place segment chained is = absurd (let no : None ≡ Some segment = is in cc)
chained_leads layouts defined (first ∷ segments) last zero segment chained is =
    subst (λ (s : Segment). Leads defined s s.exit (first_spot segments last)) (let e : first ≡ segment = cc in e) chained.1
chained_leads layouts defined (first ∷ segments) last (suc place) segment chained is = chained_leads layouts defined segments last place segment chained.2 is

first_is : (segments : List Segment) (place : ℕ) → first_spot (drop place segments) None ≡ option_map (λ segment. segment.start) (slice_get segments place)
first_is [] zero = refl
first_is [] (suc place) = refl
first_is (first ∷ segments) zero = refl
first_is (first ∷ segments) (suc place) = first_is segments place

leads_to : (code : FlatModule) (func place : ℕ) (segment : Segment) (exit : Option Exit) (found : Option Segment) → segment_at code func (place + 1) ≡ found
    → segment.end.block ≡ segment.start.block → Leads (defined_at code func) segment exit (option_map (λ next. next.start) found)
    → MatchOption exit (lines_at (defined_at code func) segment.end ≡ []) (Leaves code func place segment)
leads_to code func place segment None found is block leads = leads
leads_to code func place segment (Some exit) None is block leads = absurd leads
leads_to code func place segment (Some exit) (Some next) is block leads =
    let defined = defined_at code func in
    record {
      line = leads.line;
      is = leads.is ∙ ap (λ (found : Option Segment). leads.line ∷ option_map_or (λ (s : Segment). lines_at defined s.start) found []) (sym is);
      block = ap (λ (found : Option Segment). option_map_or (λ (s : Segment). s.start.block) found 0) is ∙ leads.block ∙ block;
      to_is = leads.to_is;
      operands_are = leads.operands_are;
      exit_is = subst (λ (b : ℕ). IsExit (defined_at code func) b leads.line.inst exit) block leads.exit_is;
    }

pub fits_at : (code : FlatModule) (func place : ℕ) (segment : Segment) → IsFunction code.content.layouts (defined_at code func) (function_at code func)
    → segment_at code func place ≡ Some segment → Fits code func place segment
fits_at code func place segment function there =
    let layouts = code.content.layouts in let defined = defined_at code func in
    let segments : List Segment = (function_at code func).segments.items in
    let is = chained_is layouts defined segments None place segment function.chained there in
    let leads = chained_leads layouts defined segments None place segment function.chained there in
    let next : first_spot (drop (suc place) segments) None ≡ option_map (λ (s : Segment). s.start) (segment_at code func (place + 1)) =
    first_is segments (suc place) ∙ ap (λ (n : ℕ). option_map (λ (s : Segment). s.start) (slice_get segments n)) (one_more place) in
    record {
      there = there;
      fits = is;
      leads = leads_to code func place segment segment.exit (segment_at code func (place + 1)) refl is.block
          (subst (Leads defined segment segment.exit) next leads);
    }

-- the segment that begins at a spot
starts_found : (segments : List Segment) (place : ℕ) (spot : Spot) → StartsAt segments place spot
    → (segment : Segment) × (slice_get segments place ≡ Some segment) × (segment.start ≡ spot)
starts_found [] place spot is = absurd (let no : None ≡ Some spot = is in cc)
starts_found (first ∷ segments) zero spot is = (first, refl, (let e : first.start ≡ spot = cc in e))
starts_found (first ∷ segments) (suc place) spot is = starts_found segments place spot is

pub front_at : (code : FlatModule) (func place : ℕ) (spot : Spot) → StartsAt (function_at code func).segments.items place spot
    → front_lines code func place ≡ lines_at (defined_at code func) spot
front_at code func place spot is =
    let found = starts_found (function_at code func).segments.items place spot is in
    ap (λ (one : Option Segment). option_map_or (λ (s : Segment). lines_at (defined_at code func) s.start) one []) found.1
    ∙ ap (λ (s : Spot). lines_at (defined_at code func) s) found.2

pub block_of : (code : FlatModule) (func place : ℕ) (spot : Spot) → StartsAt (function_at code func).segments.items place spot → block_at code func place ≡ spot.block
block_of code func place spot is =
    let found = starts_found (function_at code func).segments.items place spot is in
    ap (λ (one : Option Segment). option_map_or (λ (s : Segment). s.start.block) one 0) found.1 ∙ ap (λ (s : Spot). s.block) found.2

-- ---- the functions of a module

pub got_content : (funcs : List LinedFunction) (place : ℕ) → option_map content_of (slice_get funcs place) ≡ slice_get (map content_of funcs) place
got_content [] place = refl
got_content (func ∷ funcs) zero = refl
got_content (func ∷ funcs) (suc place) = got_content funcs place

get_known : {A : Type 0} (xs : List A) (k : ℕ) (d : A) → (slice_get xs k ≡ Some (get_or xs k d)) ⊎ ((length xs ≤ k) × (get_or xs k d ≡ d))
get_known [] k d = inr ((let h : 0 ≤ k = omega arith in h), refl)
get_known (x ∷ xs) zero d = inl refl
get_known (x ∷ xs) (suc k) d = elim (get_known xs k d) [
  | inl is ↦ inl is
  | inr past ↦ inr ((let h : length xs ≤ k = past.0 in let more : suc (length xs) ≤ suc k = omega arith in more), past.1)
]

pub functions_are : (content : ModuleContent) (functions : List Function) (nowhere : Function) → AreDecoded content functions
    → IsFunction content.layouts (slice_get content.funcs (length content.funcs)) nowhere
    → AreFunctions (record { content = content; functions = functions; nowhere = nowhere })
functions_are content functions nowhere decoded other = record {
  each = λ func. elim (get_known functions func nowhere) [
    | inl is ↦ decoded.each func nowhere (slice_get_within functions func (get_or functions func nowhere) is)
    | inr past ↦
        let count = decoded.count in let behind : length functions ≤ func = past.0 in
        let le : length content.funcs ≤ func = omega arith in
        let last : length content.funcs ≤ length content.funcs = omega arith in
        let same : slice_get content.funcs (length content.funcs) ≡ slice_get content.funcs func =
        slice_get_past content.funcs (length content.funcs) last ∙ sym (slice_get_past content.funcs func le) in
        subst (IsFunction content.layouts (slice_get content.funcs func)) (sym past.1)
        (subst (λ (defined : Option IrFunction). IsFunction content.layouts defined nowhere) same other)
  ];
}

pub func_got : (content : List IrFunction) (funcs : List LinedFunction) (place : ℕ) (found : Option LinedFunction) → map content_of funcs ≡ content
    → slice_get funcs place ≡ found → option_map content_of found ≡ slice_get content place
func_got content funcs place found is there =
    ap (option_map content_of) (sym there) ∙ got_content funcs place ∙ ap (λ (fs : List IrFunction). slice_get fs place) is
