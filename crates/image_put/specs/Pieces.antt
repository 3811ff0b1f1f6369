-- The pieces of an image as the writing pass writes them, and the room each asks.
use Rattle.std.specs.Prelude.{List, [], ◌∷◌, ◌++◌, ℕ, ◌+◌, ◌*◌, ◌≤◌, ◌<◌, length, get_or}
use Rattle.terms.specs.Limits.{b_most, s_most}
use Rattle.image_little.specs.Little.{number_bytes}
use Rattle.table.specs.Store.{Store}
use Rattle.table.specs.Limits.{Limits}
use Rattle.image_records.specs.Records.{shape, record_bytes, many_bytes}
use Rattle.image_records.specs.Images.{part_bytes, image_bytes}
use Rattle.image_records.specs.First.{first}
use Rattle.image_records.specs.Stores.{singles_in, row_in, parts_in, image_in}

unfoldable pub byte_bytes : ℕ → List ℕ
byte_bytes x = x ∷ []

unfoldable pub pair_bytes : ℕ → ℕ → List ℕ
pair_bytes x y = number_bytes 2 x ++ number_bytes 2 y

unfoldable pub line_bytes : ℕ → ℕ → ℕ → List ℕ
line_bytes base rise run = pair_bytes base rise ++ number_bytes 6 run

unfoldable pub key_bytes : ℕ → ℕ → List ℕ
key_bytes kind x = record_bytes (shape kind (6 ∷ [])) (x ∷ [])

unfoldable pub keys_bytes : ℕ → List ℕ → ℕ → ℕ → List ℕ
keys_bytes kind cells from count = many_bytes (shape kind (6 ∷ [])) (singles_in cells from count)

unfoldable pub head_bytes : ℕ → ℕ → ℕ → ℕ → List ℕ
head_bytes e b n s = record_bytes first.head (e ∷ (b ∷ (n ∷ (s ∷ []))))

unfoldable pub segment_bytes : ℕ → ℕ → ℕ → ℕ → ℕ → List ℕ
segment_bytes x base rise run held = record_bytes first.segment (x ∷ (base ∷ (rise ∷ (run ∷ (held ∷ [])))))

unfoldable pub end_bytes : List ℕ
end_bytes = record_bytes first.end []

unfoldable pub row_bytes : List ℕ → ℕ → List ℕ
row_bytes t i = record_bytes first.segment (row_in t i)

unfoldable pub piece_bytes : ℕ → List ℕ → List ℕ → ℕ → List ℕ
piece_bytes b t buffers i = row_bytes t i ++ keys_bytes 4 buffers (i * b) (get_or t (5 * i + 4) 0)

unfoldable pub pieces_bytes : ℕ → List ℕ → List ℕ → ℕ → ℕ → List ℕ
pieces_bytes b t buffers i count = part_bytes first (parts_in b t buffers i count)

unfoldable pub rest_bytes : ℕ → List ℕ → List ℕ → ℕ → List ℕ
rest_bytes b t buffers s = pieces_bytes b t buffers 0 s ++ end_bytes

-- ---- room
pub record KeysRoom (l : List ℕ) (at kind : ℕ) (cells : List ℕ) : Type 0 where
  pub space : at + length (keys_bytes kind cells 0 (length cells)) ≤ length l

pub record PieceRoom (l : List ℕ) (at b : ℕ) (t buffers : List ℕ) (i : ℕ) : Type 0 where
  pub space : at + length (piece_bytes b t buffers i) ≤ length l
  pub row : 5 * i + 5 ≤ length t
  pub few : i < s_most
  pub small : b ≤ b_most
  pub slots : i * b + get_or t (5 * i + 4) 0 ≤ length buffers

-- s segments
pub record PiecesRoom (l : List ℕ) (at b : ℕ) (t buffers : List ℕ) (s : ℕ) : Type 0 where
  pub space : at + length (pieces_bytes b t buffers 0 s) ≤ length l
  pub rows : 5 * s ≤ length t
  pub few : s ≤ s_most
  pub small : b ≤ b_most
  pub slots : (j : ℕ) → j < s → j * b + get_or t (5 * j + 4) 0 ≤ length buffers

-- and the end
pub record RestRoom (l : List ℕ) (at b : ℕ) (t buffers : List ℕ) (s : ℕ) : Type 0 where
  pub pieces : PiecesRoom l at b t buffers s
  pub end : at + length (pieces_bytes b t buffers 0 s) + 1 ≤ length l

pub record ImageRoom (l : List ℕ) (σ : Store) : Type 0 where
  pub space : length (image_bytes first (image_in σ)) ≤ length l
  pub limits : Limits σ
  pub slots : (j : ℕ) → j < σ.s → j * σ.b + get_or σ.table (5 * j + 4) 0 ≤ length σ.buffers
