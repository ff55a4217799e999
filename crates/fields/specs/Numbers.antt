-- Numbers as text: digits in a base, up to a greatest number.
use Rattle.std.specs.Prelude.{ℕ, ◌+◌, ◌-◌, ◌*◌, ◌^◌, Bool, cond, ◌&&◌, List, [], ◌∷◌, length, drop, ℤ, pos, neg_ℤ, Some, None, Option, ◌==◌, nat_le, slice_index}
use Rattle.std.specs.Option.{option_map}
use Rattle.fields.specs.declared.Base.{Base}
use Rattle.fields.specs.declared.Base.TheVariants.{Decimal, Hexadecimal}

abbrev pub radix : Base → ℕ
radix Decimal = 10
radix Hexadecimal = 16

-- whether a byte lies between two others, as '0' and '9'
abbrev pub between : ℕ → ℕ → ℕ → Bool
between low high byte = nat_le low byte && nat_le byte high

-- '0' is 48, '9' 57, 'A' 65, 'F' 70, 'a' 97, 'f' 102
abbrev pub digit_of : Base → ℕ → Option ℕ
digit_of Decimal byte = cond (between 48 57 byte) (Some (byte - 48)) None
digit_of Hexadecimal byte =
    cond (between 48 57 byte) (Some (byte - 48))
    (cond (between 65 70 byte) (Some (byte - 65 + 10)) (cond (between 97 102 byte) (Some (byte - 97 + 10)) None))

-- a digit more, unless the number then passes the greatest
abbrev pub with_digit : Base → ℕ → ℕ → Option ℕ → Option ℕ
with_digit base most number None = None
with_digit base most number (Some digit) =
    cond (nat_le (number * radix base + digit) most) (Some (number * radix base + digit)) None

abbrev pub digits_from : Base → ℕ → Option ℕ → List ℕ → Option ℕ
digits_from base most number [] = number
digits_from base most None (byte ∷ bytes) = None
digits_from base most (Some number) (byte ∷ bytes) = digits_from base most (with_digit base most number (digit_of base byte)) bytes

abbrev pub number_of : Base → ℕ → List ℕ → Option ℕ
number_of base most field = cond (length field == 0) None (digits_from base most (Some 0) field)

-- '-' is 45
abbrev pub starts_negative : List ℕ → Bool
starts_negative field = slice_index field 0 == 45

-- a number of 64 bits with a sign
abbrev pub integer_of : List ℕ → Option ℤ
integer_of field =
    cond (starts_negative field) (option_map (λ n. neg_ℤ (pos n)) (number_of Decimal (2 ^ 63) (drop 1 field)))
    (option_map pos (number_of Decimal (2 ^ 63 - 1) field))
