-- Whether a line is a label, by the longest name that it begins with.
use Rattle.std.proofs.Common.{◌≡◌, refl, ap, sym, ◌∙◌, ℕ, suc, ◌+◌, ◌-◌, ◌<◌, ◌≢◌, Bool, true, false, not, List, [], ◌∷◌, ◌++◌, length, take, drop, arith, None, Some, inl, inr, length-drop}
use Rattle.std.specs.List.{list_all, prefix_len, position_or_len}
use Rattle.std.proofs.lemmas.Bool.{and_parts, ne_eqb, cases_lt}
use Rattle.std.proofs.lemmas.List.{length-take-le, take-append-drop, drop-drop}
use Rattle.sp_text.specs.Bytes.{colon}
use Rattle.sp_text.specs.Fronts.{IsLongestFront}
use Rattle.sp_text.specs.Labels.{is_colon, label_in}
use Rattle.sp_text.specs.Tokens.{is_name, says_nothing}
use Rattle.sp_text.proofs.LineLemmas.{label-none, label-some, label-no_name, label-more}
use Rattle.sp_text.proofs.Spelled.{name_bytes, no_colon}

abbrev no_colon_byte : ℕ → Bool
no_colon_byte b = not (is_colon b)

-- a run goes on in what follows it
prefix_len-over : (p : ℕ → Bool) (xs rest : List ℕ) → list_all p xs ≡ true → prefix_len p (xs ++ rest) ≡ length xs + prefix_len p rest
prefix_len-over p [] rest all = omega arith
prefix_len-over p (x ∷ xs) rest all =
    let both = and_parts (p x) (list_all p xs) all in
    rw both.0 (omega (arith, prefix_len-over p xs rest both.1))

-- the first colon stands behind the name
colon-place : (bs : List ℕ) (len : ℕ) → IsLongestFront is_name bs len → position_or_len is_colon bs ≡ len + prefix_len no_colon_byte (drop len bs)
colon-place bs len front =
    let within = front.within in
    let none : list_all no_colon_byte (take len bs) ≡ true = no_colon (take len bs) (name_bytes (take len bs) front.passes) in
    let place = prefix_len-over no_colon_byte (take len bs) (drop len bs) none in
    rw (take-append-drop len bs, length-take-le len bs within) at place

-- where a colon stands behind the name, it is the first one
record ColonBehind (bs more : List ℕ) (len : ℕ) : Type 0 where
  first : len ≡ position_or_len is_colon bs
  some : len < length bs
  rest : drop (len + 1) bs ≡ more

colon_behind : (bs more : List ℕ) (len : ℕ) → IsLongestFront is_name bs len → drop len bs ≡ colon ∷ more → ColonBehind bs more len
colon_behind bs more len front e =
    let place : position_or_len is_colon bs ≡ len + 0 = colon-place bs len front ∙ ap (λ rest. len + prefix_len no_colon_byte rest) e in
    let fits : length bs - len ≡ suc (length more) = sym (length-drop len bs) ∙ ap length e in
    record {
      first = omega (arith, place);
      some = omega (arith, fits);
      rest = sym (drop-drop 1 len bs) ∙ ap (λ rest. drop 1 rest) e;
    }

pub label-front : (bs more : List ℕ) (len : ℕ) → IsLongestFront is_name bs len → drop len bs ≡ colon ∷ more → says_nothing more ≡ true → label_in bs ≡ Some (take len bs)
label-front bs more len front e nothing =
    let behind = colon_behind bs more len front e in
    label-some bs len behind.first behind.some front.passes (ap says_nothing behind.rest ∙ nothing)

pub label-said : (bs more : List ℕ) (len : ℕ) → IsLongestFront is_name bs len → drop len bs ≡ colon ∷ more → says_nothing more ≡ false → label_in bs ≡ None
label-said bs more len front e something =
    let behind = colon_behind bs more len front e in
    label-more bs len behind.first behind.some (ap says_nothing behind.rest ∙ something)

-- else no name stands before the first colon
no_label : (bs : List ℕ) → (position_or_len is_colon bs < length bs → is_name (take (position_or_len is_colon bs) bs) ≡ false) → label_in bs ≡ None
no_label bs no_name = elim (cases_lt (position_or_len is_colon bs) (length bs)) [
  | inl some ↦ label-no_name bs (position_or_len is_colon bs) refl some (no_name some)
  | inr none ↦ label-none bs none
]

pub label-no_colon : (bs : List ℕ) (len : ℕ) → IsLongestFront is_name bs len → 0 < prefix_len no_colon_byte (drop len bs) → label_in bs ≡ None
label-no_colon bs len front some =
    let place = colon-place bs len front in
    no_label bs (λ fits. front.longest (position_or_len is_colon bs) (omega (arith, place)) (omega arith))

-- a name that ends the line
pub label-whole : (bs : List ℕ) (len : ℕ) → IsLongestFront is_name bs len → drop len bs ≡ [] → label_in bs ≡ None
label-whole bs len front e =
    let place : position_or_len is_colon bs ≡ len + 0 = colon-place bs len front ∙ ap (λ rest. len + prefix_len no_colon_byte rest) e in
    let fits : length bs - len ≡ 0 = sym (length-drop len bs) ∙ ap length e in
    label-none bs (omega (arith, place, fits))

-- a name behind which another byte stands
pub label-other : (bs more : List ℕ) (b len : ℕ) → IsLongestFront is_name bs len → drop len bs ≡ b ∷ more → b ≢ colon → label_in bs ≡ None
label-other bs more b len front e other =
    let isnt : is_colon b ≡ false = ne_eqb b colon other in
    let one : prefix_len no_colon_byte (b ∷ more) ≡ 1 + prefix_len no_colon_byte more = rw isnt refl in
    label-no_colon bs len front (omega (arith, one, ap (λ rest. prefix_len no_colon_byte rest) e))
