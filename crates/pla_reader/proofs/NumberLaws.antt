-- Numbers of at most nine decimal digits.
use Rattle.std.proofs.Common.{◌≡◌, ℕ, suc, zero, ◌+◌, ◌-◌, ◌*◌, ◌^◌, ◌<◌, ◌≤◌, List, length, take, get_or, sym, ap, ◌∙◌, arith}
use Rattle.std.specs.Str.Parse.{digits_value}
use Rattle.std.specs.Char.{digit_value}
use Rattle.std.proofs.lemmas.Int.Digits.{digits_value_more}
use Rattle.std.proofs.lemmas.Str.{digit_value_digit}

pub small_step : (i v d : ℕ) → i < 9 → v < 10 ^ i → d < 10 → (v * 10 + d < 10 ^ (i + 1)) × (v * 10 + d < 2 ^ 32)
small_step zero v d few small digit = (omega arith, omega arith)
small_step (suc zero) v d few small digit = (omega arith, omega arith)
small_step (suc (suc zero)) v d few small digit = (omega arith, omega arith)
small_step (suc (suc (suc zero))) v d few small digit = (omega arith, omega arith)
small_step (suc (suc (suc (suc zero)))) v d few small digit = (omega arith, omega arith)
small_step (suc (suc (suc (suc (suc zero))))) v d few small digit = (omega arith, omega arith)
small_step (suc (suc (suc (suc (suc (suc zero)))))) v d few small digit = (omega arith, omega arith)
small_step (suc (suc (suc (suc (suc (suc (suc zero))))))) v d few small digit = (omega arith, omega arith)
small_step (suc (suc (suc (suc (suc (suc (suc (suc zero)))))))) v d few small digit = (omega arith, omega arith)
small_step (suc (suc (suc (suc (suc (suc (suc (suc (suc i))))))))) v d few small digit = absurd (omega arith)

-- one more digit
pub value_step : (word : List ℕ) (i v d : ℕ) → i < length word → (48 ≤ get_or word i 0) × (get_or word i 0 ≤ 57) → v ≡ digits_value 10 (take i word) → d ≡ get_or word i 0 - 48 → v * 10 + d ≡ digits_value 10 (take (i + 1) word)
value_step word i v d within range is digit =
    let one : d ≡ digit_value (get_or word i 0) = let e = digit_value_digit (get_or word i 0) (range.0, range.1) in omega (arith, e, digit) in
    ap (λ n. n * 10 + d) is ∙ ap (λ n. digits_value 10 (take i word) * 10 + n) one ∙ sym (digits_value_more 10 word i within)
