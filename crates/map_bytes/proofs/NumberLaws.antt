-- The bytes of a number that was read are those that it was read from.
use Rattle.std.proofs.Common.{◌≡◌, ℕ, zero, suc, ◌+◌, ◌*◌, ◌/◌, ◌%◌, ◌^◌, ◌<◌, ◌≤◌, List, [], ◌∷◌, length, take, drop, refl, sym, ap, ◌∙◌, arith}
use Rattle.std.proofs.Math.Nat.{div-div-eq-div-mul, div-one, pow-succ'}
use Rattle.std.proofs.lemmas.List.{get_or-drop}
use Rattle.std.specs.Int.{byte_at, bytes_low_first}
use Rattle.byteorder.specs.Endian.{little_bytes, little_number}
use Rattle.byteorder.specs.Numbers.{little_from-cons}
use Rattle.map_bytes.specs.Formats.{AreBytes}

pub AreBytes-tail : (b : ℕ) (bs : List ℕ) → AreBytes (b ∷ bs) → AreBytes bs
AreBytes-tail b bs bytes i = bytes (suc i)

pub AreBytes-drop : (n : ℕ) (bs : List ℕ) → AreBytes bs → AreBytes (drop n bs)
AreBytes-drop n bs bytes i = rw get_or-drop (bytes (n + i))

byte_at-pow : (k x : ℕ) → byte_at k x ≡ x / 256 ^ k % 256
byte_at-pow zero x = ap (λ (y : ℕ). y % 256) (sym (div-one x))
byte_at-pow (suc k) x = refl

-- the byte above the lowest one of a number that has one more below
byte_at-above : (i b m : ℕ) → b < 256 → byte_at (suc i) (b + 256 * m) ≡ byte_at i m
byte_at-above i b m lt =
    let low : (b + 256 * m) / 256 ≡ m = omega arith in
    let split : (b + 256 * m) / 256 ^ suc i ≡ (b + 256 * m) / 256 / 256 ^ i = ap (λ (p : ℕ). (b + 256 * m) / p) (pow-succ' 256 i) ∙ sym (div-div-eq-div-mul (b + 256 * m) 256 (256 ^ i)) in
    ap (λ (y : ℕ). y % 256) (split ∙ ap (λ (y : ℕ). y / 256 ^ i) low) ∙ sym (byte_at-pow i m)

bytes_low_first-above : (i k b m : ℕ) → b < 256 → bytes_low_first (suc i) k (b + 256 * m) ≡ bytes_low_first i k m
bytes_low_first-above i zero b m lt = refl
bytes_low_first-above i (suc k) b m lt =
    ap (λ (x : ℕ). x ∷ bytes_low_first (suc (suc i)) k (b + 256 * m)) (byte_at-above i b m lt)
    ∙ ap (λ (xs : List ℕ). byte_at i m ∷ xs) (bytes_low_first-above (suc i) k b m lt)

pub little_bytes-number : (k : ℕ) (bs : List ℕ) → k ≤ length bs → AreBytes bs → little_bytes k (little_number k bs) ≡ take k bs
little_bytes-number zero bs le bytes = refl
little_bytes-number (suc k) [] le bytes = absurd (omega arith)
little_bytes-number (suc k) (b ∷ bs) le bytes =
    let rest = little_number k bs in
    let lt : b < 256 = bytes 0 in
    let value : little_number (suc k) (b ∷ bs) ≡ b + 256 * rest = ap (λ (r : ℕ). b + 256 * r) (little_from-cons 0 k b bs) in
    let low : (b + 256 * rest) % 256 ≡ b = omega arith in
    ap (little_bytes (suc k)) value
    ∙ ap (λ (x : ℕ). x ∷ bytes_low_first 1 k (b + 256 * rest)) low
    ∙ ap (λ (xs : List ℕ). b ∷ xs) (bytes_low_first-above 0 k b rest lt ∙ little_bytes-number k bs (omega arith) (AreBytes-tail b bs bytes))
