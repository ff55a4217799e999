-- The digits of a number: the last one and those before it, how many there are, and the minus.
use Rattle.std.proofs.Common.{◌≡◌, ℕ, ◌+◌, ◌/◌, ◌%◌, ◌^◌, ◌<◌, ◌≤◌, [], ◌∷◌, length, decimal, ap, ◌∙◌, arith, length-append}
use Rattle.std.proofs.lemmas.Fmt.{decimal_digit, decimal_step, length-decimal-le}

pub one_digit : (n : ℕ) → n < 10 → decimal n ≡ (48 + n % 10) ∷ []
one_digit n h = let same : n ≡ n % 10 = omega arith in decimal_digit n h ∙ ap (λ d. (48 + d) ∷ []) same

pub length_more : (n : ℕ) → 10 ≤ n → n < 2 ^ 64 → length (decimal n) ≡ length (decimal (n / 10)) + 1
length_more n h fit = ap length (decimal_step n h fit) ∙ length-append (decimal (n / 10)) ((48 + n % 10) ∷ [])

pub length_below : (n : ℕ) → n < 2 ^ 64 → length (decimal n) ≤ 20
length_below n fit = length-decimal-le 20 n (omega arith) (omega arith) fit
