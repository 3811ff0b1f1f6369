-- A sum and a product as the cells' places are made of them: exact where a store can hold them, and else the greatest number of 64 bits.
use Rattle.std.specs.Prelude.{ℕ, ◌+◌, ◌*◌, ◌&&◌, nat_lt, if◌then◌else◌}

abbrev pub sum_of : ℕ → ℕ → ℕ
sum_of a b = if nat_lt a 4611686018427387904 && nat_lt b 4611686018427387904 then a + b else 18446744073709551615

abbrev pub product_of : ℕ → ℕ → ℕ
product_of a b = if nat_lt a 281474976710656 && nat_lt b 65536 then a * b else 18446744073709551615
