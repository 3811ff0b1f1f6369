-- The round trips of a number, at every width: read what was written, write what was read.
-- Assumes nothing.
use mathlib.Core.Path.{◌≡◌, refl, ap, ◌∙◌}
use mathlib.Core.List.{List, [], ◌∷◌, ◌++◌}
use Prim.Native.Nat.{ℕ, zero, suc, ◌+◌, ◌*◌, ◌/◌, ◌%◌, ◌^◌, ◌≤◌, ◌<◌}
use native.Mathlib.Nat.{add-zero, pow-suc}
use native.Mathlib.Omega.{arith}
use lib.ListN.{length, drop, get_or}
use lib.Seq.{drop-cons}
use Rattle.lists.proofs.Lists.{drop_head, drop_past}
use Rattle.image_little.specs.Little.{number_bytes, get_at, Bytes}

pub number_length : (w x : ℕ) → length (number_bytes w x) ≡ w
unfolding number_bytes
number_length zero x = refl
number_length (suc w) x = ap suc (number_length w (x / 256))

-- ---- of the bytes from an offset on

-- a number that fits, written, is read
pub number_forth : (w x : ℕ) (l rest : List ℕ) (at : ℕ) → drop at l ≡ number_bytes w x ++ rest → x < 256 ^ w → get_at l at w ≡ x
unfolding number_bytes get_at
number_forth zero x l rest at e h = omega arith
number_forth (suc w) x l rest at e h =
    let p : 256 ^ suc w ≡ 256 ^ w * 256 = pow-suc 256 w in
    let here : get_or l at 0 ≡ x % 256 = drop_head l at (x % 256) (number_bytes w (x / 256) ++ rest) 0 e in
    let next : get_at l (at + 1) w ≡ x / 256 =
    number_forth w (x / 256) l rest (at + 1) (drop_past l (x % 256 ∷ []) (number_bytes w (x / 256) ++ rest) at 1 e refl) (omega arith) in
    omega (arith, here, next)

-- a number read is the bytes it was read from
pub number_back : (w : ℕ) (l : List ℕ) (at : ℕ) → at + w ≤ length l → Bytes l → drop at l ≡ number_bytes w (get_at l at w) ++ drop (at + w) l
unfolding number_bytes get_at
number_back zero l at h small = rw add-zero
number_back (suc w) l at h small =
    let b : get_or l at 0 < 256 = small at in
    let low : (get_or l at 0 + 256 * get_at l (at + 1) w) % 256 ≡ get_or l at 0 = omega arith in
    let high : (get_or l at 0 + 256 * get_at l (at + 1) w) / 256 ≡ get_at l (at + 1) w = omega arith in
    let next : drop (at + 1) l ≡ number_bytes w (get_at l (at + 1) w) ++ drop (at + 1 + w) l = number_back w l (at + 1) (omega arith) small in
    let s : at + 1 + w ≡ at + suc w = omega arith in
    let one : suc at ≡ at + 1 = omega arith in
    rw (low, high) (drop-cons l at 0 (omega arith) ∙ ap (λ (r : List ℕ). get_or l at 0 ∷ r) (ap (λ (k : ℕ). drop k l) one ∙ rw s at next))

-- and fits its width
pub number_small : (l : List ℕ) → Bytes l → (at w : ℕ) → get_at l at w < 256 ^ w
unfolding get_at
number_small l small at zero = omega arith
number_small l small at (suc w) =
    let p : 256 ^ suc w ≡ 256 ^ w * 256 = pow-suc 256 w in
    let b : get_or l at 0 < 256 = small at in
    let n : get_at l (at + 1) w < 256 ^ w = number_small l small (at + 1) w in
    omega arith
