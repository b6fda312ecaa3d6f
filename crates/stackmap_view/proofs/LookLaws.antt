-- A record by its number or its return address, in a walk over the records.
use Rattle.std.proofs.Common.{◌≡◌, ℕ, suc, ◌+◌, ◌-◌, ◌<◌, ◌≤◌, Bool, false, cond, List, [], ◌∷◌, Option, Some, None, sym, ap, ◌∙◌, arith}
use Rattle.std.specs.Prelude.{slice_get, option_map}
use Rattle.std.specs.List.{find}
use Rattle.std.specs.Iterator.{YieldsFirstBy}
use Rattle.map_bytes.specs.Entries.{Entry}
use Rattle.stackmap_view.specs.declared.records.RecordRef.{RecordRef}
use Rattle.stackmap_view.specs.declared.walk.Records.{Records}
use Rattle.stackmap_view.specs.Views.{seen}
use Rattle.stackmap_view.specs.Walks.{records_left}

-- what comes next is what is left first
pub next-seen : (walk after : Records) (next : Option RecordRef) → YieldsFirstBy seen records_left walk next after → option_map seen next ≡ slice_get (records_left walk) 0
next-seen walk after None yields = sym (ap (λ (xs : List Entry). slice_get xs 0) yields.0)
next-seen walk after (Some one) yields = sym (ap (λ (xs : List Entry). slice_get xs 0) yields)

pub entry-end : (xs : List Entry) (index i : ℕ) (next : Option Entry) (total : Option Entry) → index ≤ i → next ≡ slice_get xs 0 → slice_get xs (index - i) ≡ total → next ≡ total
entry-end xs index i next total le e so_far = let k : 0 ≡ index - i = omega arith in e ∙ ap (slice_get xs) k ∙ so_far

pub entry-more : (xs ys : List Entry) (one : Entry) (index i : ℕ) (total : Option Entry) → i < index → xs ≡ one ∷ ys → slice_get xs (index - i) ≡ total → slice_get ys (index - (i + 1)) ≡ total
entry-more xs ys one index i total lt e so_far =
    let k : index - i ≡ suc (index - (i + 1)) = omega arith in
    sym (ap (λ (n : ℕ). slice_get (one ∷ ys) n) k) ∙ sym (ap (λ (x : List Entry). slice_get x (index - i)) e) ∙ so_far

pub find-more : (p : Entry → Bool) (xs ys : List Entry) (one : Entry) (total : Option Entry) → xs ≡ one ∷ ys → p one ≡ false → find p xs ≡ total → find p ys ≡ total
find-more p xs ys one total e fails so_far = sym (ap (λ (b : Bool). cond b (Some one) (find p ys)) fails) ∙ sym (ap (find p) e) ∙ so_far

pub find-end : (p : Entry → Bool) (xs : List Entry) (total : Option Entry) → xs ≡ [] → find p xs ≡ total → (let none : Option Entry = None in none) ≡ total
find-end p xs total e so_far = sym (ap (find p) e) ∙ so_far
