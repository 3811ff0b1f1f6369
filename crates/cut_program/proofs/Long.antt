-- An input longer than the program's buffer loses nothing: the first 7,725 bytes decide, which are 15 for each of 515 lines (e, B, 512 keys and
-- the one too many).
-- Assumes nothing.
use mathlib.Core.Path.{◌≡◌, refl}
use mathlib.Core.List.{List}
use Prim.Native.Nat.{ℕ, ◌≤◌}
use native.Mathlib.Omega.{arith}
use lib.ListN.{length, take}
use Rattle.cut_input.proofs.Long.{listed_cut, given_cut}
use Rattle.cut_program.specs.Output.{output_of}

pub output_cut : (text : List ℕ) (m : ℕ) → 7725 ≤ m → m ≤ length text → output_of (take m text) ≡ output_of text
unfolding output_of
output_cut text m h held = rw (listed_cut text m held 512 (omega arith), given_cut text m held 512 (omega arith)) refl
