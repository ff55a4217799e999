-- The fields of a 32-bit ticket word.
use Rattle.std.specs.Prelude.{ℕ, ◌/◌, ◌%◌, ◌^◌, cond, ℤ, pos, ◌-ℤ◌, nat_lt}

-- bits 31 to 28
abbrev pub kind_of : ℕ → ℕ
kind_of word = word / 2 ^ 28

-- bits 27 to 24
abbrev pub shipper_of : ℕ → ℕ
shipper_of word = word / 2 ^ 24 % 2 ^ 4

-- bits 23 to 16
abbrev pub reserved_of : ℕ → ℕ
reserved_of word = word / 2 ^ 16 % 2 ^ 8

-- bits 15 to 0: a day or a month
abbrev pub date_of : ℕ → ℕ
date_of word = word % 2 ^ 16

-- bits 27 to 0
abbrev pub field_of : ℕ → ℕ
field_of word = word % 2 ^ 28

-- bits 27 to 0 in two's complement
abbrev pub signed_of : ℕ → ℤ
signed_of word = cond (nat_lt (field_of word) (2 ^ 27)) (pos (field_of word)) (pos (field_of word) -ℤ pos (2 ^ 28))
