-- 01, "Numbers": the limits of a key, of e, B, n and s; and the greatest rise of a line that is not damaged.
use Rattle.std.specs.Prelude.{ℕ, ◌+◌, ◌^◌}
use Rattle.terms.specs.declared.Key.{Key}
use Rattle.terms.specs.declared.Sizes.{Sizes}

-- "A key is at least 0 and below 2^44."
abbrev pub key_limit : ℕ
key_limit = 2 ^ 44

-- "Error bound e: 0 to 1,024."
abbrev pub e_most : ℕ
e_most = 1024

-- "Buffer size B: 1 to 64."
abbrev pub b_most : ℕ
b_most = 64

-- "n, keys in runs: 1 to 32,768."
abbrev pub n_most : ℕ
n_most = 32768

-- "s, segments: 1 to 8,192."
abbrev pub s_most : ℕ
s_most = 8192

-- "rise above 65,535" is damage
abbrev pub rise_most : ℕ
rise_most = 65535

-- a number as a key
abbrev pub key_of : ℕ → Key
key_of k = record { 0 = k }

-- four numbers as a store's
abbrev pub sizes_of : ℕ → ℕ → ℕ → ℕ → Sizes
sizes_of e b n s = record { e = e; b = b; n = n; s = s }

-- "The bound e given is the bound the cut uses", and the window and the check use the same: the bound in use
abbrev pub in_use_of : Sizes → ℕ
in_use_of z = z.e

-- a list that is cut has at most these: a run, the used slots and a key more
abbrev pub cut_most : ℕ
cut_most = n_most + b_most
